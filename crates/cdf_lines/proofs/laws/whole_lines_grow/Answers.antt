use Rattle.cdf_lines.proofs.Pieces.{whole_lines-append}
use Rattle.cdf_lines.proofs.laws.whole_lines_grow.Goals as goal

pub returns : goal.returns
returns c = whole_lines-append
