use Rattle.cdf_lines.proofs.Pieces.{fed-append}
use Rattle.cdf_lines.proofs.laws.pieces_join.Goals as goal

pub returns : goal.returns
returns c = fed-append
