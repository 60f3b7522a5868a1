use Rattle.cdf_session.proofs.OpenLemmas.{stays_open}
use Rattle.cdf_session.proofs.parts.SessionParts.attribute.Goals as goal

pub invariant_of-self : goal.invariant_of-self
invariant_of-self g c = (stays_open _ _ _ _ _ _ c.self.invariant.0 c.attribute_event.ensures.area.image c.attribute_event.ensures.area.frame, rw (c.attribute_event.ensures.area.image) c.self.invariant.1)
