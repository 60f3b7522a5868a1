use Rattle.cdf_model.proofs.BlankLines.{blank-line, line-blank}
use Rattle.cdf_model.proofs.laws.a_line_is_blank.Goals as goal

pub returns : goal.returns
returns c = λ line. (line-blank line, blank-line line)
