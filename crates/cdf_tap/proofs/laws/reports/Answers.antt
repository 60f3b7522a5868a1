use Rattle.cdf_tap.proofs.Told.{told_is, left_is, others_are}
use Rattle.cdf_tap.proofs.laws.reports.Goals as goal

pub returns-clause-texts : goal.returns-clause-texts
returns-clause-texts c = told_is

pub returns-clause-left : goal.returns-clause-left
returns-clause-left c = left_is

pub returns-clause-others : goal.returns-clause-others
returns-clause-others c = others_are
