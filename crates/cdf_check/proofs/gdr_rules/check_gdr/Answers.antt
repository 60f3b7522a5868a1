use Rattle.cdf_check.proofs.Common.{read_done, read_once}
use Rattle.cdf_check.proofs.gdr_rules.check_gdr.Goals as goal

pub returns-then-not-has_gdr-clause-area : goal.returns-then-not-has_gdr-clause-area
returns-then-not-has_gdr-clause-area g c = read_done (read_once c.in_ok-cdr.ensures.area)
