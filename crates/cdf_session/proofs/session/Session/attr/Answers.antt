use Rattle.cdf_session.proofs.Common.{Attr, refl}
use Rattle.cdf_session.proofs.OpenLemmas.{good_stays, ends_open, ends_with_starts}
use Rattle.cdf_session.proofs.session.Session.attr.Goals as goal

pub create-done-requires-clause-good : goal.create-done-requires-clause-good
create-done-requires-clause-good g c = good_stays (g.A.Area.image c.self.inside.area) (g.A.Area.image c.mark.new.self) c.self.invariant.0.good c.mark.ensures.image

pub invariant_of-self : goal.invariant_of-self
invariant_of-self g c = (
  ends_open (g.A.Area.image c.self.inside.area) (g.A.Area.image c.mark.new.self) (g.A.Area.image c.create-done.new.area) (g.A.Area.image c.settle.new.area)
      (g.A.Area.frame c.self.inside.area) (g.A.Area.frame c.mark.new.self) (g.A.Area.frame c.create-done.new.area) (g.A.Area.frame c.settle.new.area)
      c.self.inside.attrs c.create-done.new.self c.self.inside.vars (Attr c.args.name.now c.args.scope) refl refl c.create-done.result
      c.self.invariant.0 c.mark.ensures.image c.mark.ensures.frame c.create-done.ensures.area.frame c.settle.ensures.frame
      c.create-done.ensures.answers c.create-done.ensures.known c.create-done.ensures.stays c.settle.ensures.kept c.settle.ensures.undone,
  record {
    starts = ends_with_starts _ _ _ _ (g.A.Area.frame c.self.inside.area) _ _ _ _ (Attr c.args.name.now c.args.scope) refl _
        c.self.invariant.0.good c.self.invariant.1.starts c.forget_view.ensures.starts c.mark.ensures.image c.mark.ensures.frame c.create-done.ensures.area.frame c.create-done.ensures.answers c.settle.ensures.kept c.settle.ensures.undone;
    view = c.forget_view.ensures.view _;
  },
)
