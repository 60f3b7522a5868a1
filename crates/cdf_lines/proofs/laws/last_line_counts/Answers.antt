use Rattle.cdf_lines.proofs.Pieces.{lines-split}
use Rattle.cdf_lines.proofs.laws.last_line_counts.Goals as goal

pub returns : goal.returns
returns c = lines-split
