use Rattle.cdf_session.proofs.Common.{arith}
use Rattle.cdf_session.proofs.OpenLemmas.{stays_open}
use Rattle.cdf_session.proofs.FewVariables.{few_variables}
use Rattle.cdf_session.proofs.WholeEvents.{whole_variables}
use Rattle.cdf_session.proofs.parts.SessionParts.end.Goals as goal

pub invariant_of-self : goal.invariant_of-self
invariant_of-self g c = (stays_open _ _ _ _ _ _ c.self.invariant.0 c.read_head.ensures.area.image c.read_head.ensures.area.frame, rw (c.read_head.ensures.area.image) c.self.invariant.1)

pub overflow_add-result : goal.overflow_add-result
overflow_add-result g c = let few = few_variables (whole_variables _ c.self.invariant.0.good) c.in_ok-head.head c.in_ok-head.ensures.head in omega arith

pub invariant_of-self-2 : goal.invariant_of-self-2
invariant_of-self-2 g c = (stays_open _ _ _ _ _ _ c.self.invariant.0 c.read_head.ensures.area.image c.read_head.ensures.area.frame, rw (c.read_head.ensures.area.image) c.self.invariant.1)
