use Rattle.cdf_session.proofs.OpenLemmas.{reads_open}
use Rattle.cdf_session.proofs.parts.SessionParts.own_entry.Goals as goal

pub invariant_of-self : goal.invariant_of-self
invariant_of-self g c = (reads_open _ _ _ _ _ _ _ c.self.invariant.0 c.own_entry.ensures.area.image c.own_entry.ensures.area.frame c.own_entry.ensures.known, rw (c.own_entry.ensures.area.image) c.self.invariant.1)
