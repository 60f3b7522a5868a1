use Rattle.cdf_session.proofs.Common.{good_is_sound}
use Rattle.cdf_session.proofs.OpenLemmas.{stays_open}
use Rattle.cdf_session.proofs.session.Session.space.Goals as goal

pub space_of-requires : goal.space_of-requires
space_of-requires g c = record { sound = good_is_sound (g.A.Area.image c.self.inside.area) c.self.invariant.0.good }

pub invariant_of-self : goal.invariant_of-self
invariant_of-self g c = (stays_open (g.A.Area.image c.self.inside.area) (g.A.Area.image c.space_of.new.area) (g.A.Area.frame c.self.inside.area) (g.A.Area.frame c.space_of.new.area) c.self.inside.attrs c.self.inside.vars c.self.invariant.0 c.space_of.ensures.area.image c.space_of.ensures.area.frame, rw (c.space_of.ensures.area.image) c.self.invariant.1)
