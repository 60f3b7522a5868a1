use Rattle.cdf_lines.proofs.Pieces.{rest-append}
use Rattle.cdf_lines.proofs.laws.rest_grows.Goals as goal

pub returns : goal.returns
returns c = rest-append
