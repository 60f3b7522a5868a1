use Rattle.cdf_model.proofs.TapEnds.{ends, sees_all}
use Rattle.cdf_model.proofs.laws.a_tap_sees_until_its_end.Goals as goal

pub returns-clause-ends : goal.returns-clause-ends
returns-clause-ends c = ends

pub returns-clause-sees_all : goal.returns-clause-sees_all
returns-clause-sees_all c = sees_all
