use Rattle.cdf_session.proofs.OpenLemmas.{stays_open}
use Rattle.cdf_session.proofs.parts.SessionParts.head.Goals as goal

pub invariant_of-self : goal.invariant_of-self
invariant_of-self g c = (stays_open _ _ _ _ _ _ c.self.invariant.0 c.read_head.ensures.area.image c.read_head.ensures.area.frame, rw (c.read_head.ensures.area.image) c.self.invariant.1)
