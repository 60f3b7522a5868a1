use Rattle.cdf_session.proofs.OpenLemmas.{stays_open}
use Rattle.cdf_session.proofs.parts.SessionParts.record.Goals as goal

pub invariant_of-self : goal.invariant_of-self
invariant_of-self g c = (stays_open _ _ _ _ _ _ c.self.invariant.0 c.next_record.ensures.area.image c.next_record.ensures.area.frame, record { starts = rw (c.next_record.ensures.area.image) c.next_record.ensures.starts; view = rw (c.next_record.ensures.area.image) c.next_record.ensures.view })

pub invariant_of-self-2 : goal.invariant_of-self-2
invariant_of-self-2 g c = (stays_open _ _ _ _ _ _ c.self.invariant.0 c.next_record.ensures.area.image c.next_record.ensures.area.frame, record { starts = rw (c.next_record.ensures.area.image) c.next_record.ensures.starts; view = rw (c.next_record.ensures.area.image) c.next_record.ensures.view })
