use Rattle.cdf_session.proofs.OpenLemmas.{stays_open, info_answers}
use Rattle.cdf_session.proofs.session.Session.info.Goals as goal

pub invariant_of-self : goal.invariant_of-self
invariant_of-self g c = (stays_open (g.A.Area.image c.self.inside.area) (g.A.Area.image c.read_head.new.area) (g.A.Area.frame c.self.inside.area) (g.A.Area.frame c.read_head.new.area) c.self.inside.attrs c.self.inside.vars c.self.invariant.0 c.read_head.ensures.area.image c.read_head.ensures.area.frame, rw (c.read_head.ensures.area.image) c.self.invariant.1)

pub invariant_of-self-2 : goal.invariant_of-self-2
invariant_of-self-2 g c = (stays_open (g.A.Area.image c.self.inside.area) (g.A.Area.image c.read_head.new.area) (g.A.Area.frame c.self.inside.area) (g.A.Area.frame c.read_head.new.area) c.self.inside.attrs c.self.inside.vars c.self.invariant.0 c.read_head.ensures.area.image c.read_head.ensures.area.frame, rw (c.read_head.ensures.area.image) c.self.invariant.1)

pub returns-clause-answers : goal.returns-clause-answers
returns-clause-answers g c =
    rw c.self.view_is at (info_answers (g.A.Area.frame c.self.inside.area).limit (g.A.Area.image c.self.inside.area) (g.A.Area.image c.read_head.new.area) c.in_ok-head.head c.self.invariant.0.good c.self.invariant.0.fits c.read_head.ensures.area.image c.in_ok-head.ensures.head)
