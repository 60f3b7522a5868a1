use Rattle.cdf_session.proofs.OpenLemmas.{reads_open}
use Rattle.cdf_session.proofs.session.Session.get_entry.Goals as goal

pub invariant_of-self : goal.invariant_of-self
invariant_of-self g c = (reads_open (g.A.Area.image c.self.inside.area) (g.A.Area.image c.get_entry.new.area) (g.A.Area.frame c.self.inside.area) (g.A.Area.frame c.get_entry.new.area) c.self.inside.attrs c.get_entry.new.self c.self.inside.vars c.self.invariant.0 c.get_entry.ensures.area.image c.get_entry.ensures.area.frame c.get_entry.ensures.known, rw (c.get_entry.ensures.area.image) c.self.invariant.1)
