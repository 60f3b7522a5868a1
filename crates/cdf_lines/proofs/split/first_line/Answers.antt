use Rattle.cdf_lines.proofs.Newlines.{no_line, line_at}
use Rattle.cdf_lines.proofs.split.first_line.Goals as goal

pub returns-in-None-clause-none : goal.returns-in-None-clause-none
returns-in-None-clause-none c = no_line c.args.text.now c.in-None.ensures

pub returns-in-Some-clause-first : goal.returns-in-Some-clause-first
returns-in-Some-clause-first c = line_at c.args.text.now c.in-Some.end c.in-Some.ensures
