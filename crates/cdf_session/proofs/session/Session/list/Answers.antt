use Rattle.cdf_session.proofs.Common.{◌∙◌}
use Rattle.cdf_session.proofs.OpenLemmas.{good_stays, list_answers, listed, stays_open}
use Rattle.cdf_session.proofs.session.Session.list.Goals as goal

pub invariant_of-self : goal.invariant_of-self
invariant_of-self g c = (stays_open (g.A.Area.image c.self.inside.area) (g.A.Area.image c.items.new.area) (g.A.Area.frame c.self.inside.area) (g.A.Area.frame c.items.new.area) c.self.inside.attrs c.self.inside.vars c.self.invariant.0 c.items.ensures.area.image c.items.ensures.area.frame, rw (c.items.ensures.area.image) c.self.invariant.1)

pub invariant_of-self-2 : goal.invariant_of-self-2
invariant_of-self-2 g c = (stays_open (g.A.Area.image c.self.inside.area) (g.A.Area.image c.push_items.new.area) (g.A.Area.frame c.self.inside.area) (g.A.Area.frame c.push_items.new.area) c.self.inside.attrs c.self.inside.vars c.self.invariant.0 (c.push_items.ensures.area.image ∙ c.items.ensures.area.image) (c.push_items.ensures.area.frame ∙ c.items.ensures.area.frame), rw (c.push_items.ensures.area.image, c.items.ensures.area.image) c.self.invariant.1)

pub push_items-requires : goal.push_items-requires
push_items-requires g c = record { good = good_stays (g.A.Area.image c.self.inside.area) (g.A.Area.image c.items.new.area) c.self.invariant.0.good c.items.ensures.area.image }

pub returns-clause-answers : goal.returns-clause-answers
returns-clause-answers g c =
    let b = g.A.Area.image c.self.inside.area in
    rw c.self.view_is at (list_answers (g.A.Area.frame c.self.inside.area).limit b (g.A.Area.image c.push_items.new.area) c.new.result c.self.invariant.0.good c.self.invariant.0.fits (c.push_items.ensures.area.image ∙ c.items.ensures.area.image)
    (listed b (g.A.Area.image c.items.new.area) c.in_ok-items.items.items c.new.result c.items.ensures.area.image c.in_ok-items.ensures.items (c.new.ensures ∙ c.in_ok-push_items.ensures.items)))
