use Rattle.cdf_session.proofs.OpenLemmas.{stays_open}
use Rattle.cdf_session.proofs.session.Session.seal.Goals as goal

pub invariant_of-self : goal.invariant_of-self
invariant_of-self g c = (stays_open (g.A.Area.image c.self.inside.area) (g.A.Area.image c.read_seal.new.area) (g.A.Area.frame c.self.inside.area) (g.A.Area.frame c.read_seal.new.area) c.self.inside.attrs c.self.inside.vars c.self.invariant.0 c.read_seal.ensures.area.image c.read_seal.ensures.area.frame, rw (c.read_seal.ensures.area.image) c.self.invariant.1)
