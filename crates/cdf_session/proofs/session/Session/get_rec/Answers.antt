use Rattle.cdf_session.proofs.OpenLemmas.{stays_open}
use Rattle.cdf_session.proofs.session.Session.get_rec.Goals as goal

pub invariant_of-self : goal.invariant_of-self
invariant_of-self g c = (stays_open (g.A.Area.image c.self.inside.area) (g.A.Area.image c.get_rec.new.area) (g.A.Area.frame c.self.inside.area) (g.A.Area.frame c.get_rec.new.area) c.self.inside.attrs c.self.inside.vars c.self.invariant.0 c.get_rec.ensures.area.image c.get_rec.ensures.area.frame, record { starts = rw (c.get_rec.ensures.area.image) c.get_rec.ensures.starts; view = rw (c.get_rec.ensures.area.image) c.get_rec.ensures.view })
