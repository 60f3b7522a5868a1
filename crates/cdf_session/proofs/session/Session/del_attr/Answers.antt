use Rattle.cdf_session.proofs.Common.{DelAttr, refl}
use Rattle.cdf_session.proofs.OpenLemmas.{good_stays, ends_open, ends_with_starts}
use Rattle.cdf_session.proofs.session.Session.del_attr.Goals as goal

pub remove-done-requires-clause-good : goal.remove-done-requires-clause-good
remove-done-requires-clause-good g c = good_stays (g.A.Area.image c.self.inside.area) (g.A.Area.image c.mark.new.self) c.self.invariant.0.good c.mark.ensures.image

pub invariant_of-self : goal.invariant_of-self
invariant_of-self g c = (
  ends_open (g.A.Area.image c.self.inside.area) (g.A.Area.image c.mark.new.self) (g.A.Area.image c.remove-done.new.area) (g.A.Area.image c.settle.new.area)
      (g.A.Area.frame c.self.inside.area) (g.A.Area.frame c.mark.new.self) (g.A.Area.frame c.remove-done.new.area) (g.A.Area.frame c.settle.new.area)
      c.self.inside.attrs c.remove-done.new.self c.self.inside.vars (DelAttr c.args.name.now) refl refl c.remove-done.result
      c.self.invariant.0 c.mark.ensures.image c.mark.ensures.frame c.remove-done.ensures.area.frame c.settle.ensures.frame
      c.remove-done.ensures.answers c.remove-done.ensures.known c.remove-done.ensures.stays c.settle.ensures.kept c.settle.ensures.undone,
  record {
    starts = ends_with_starts _ _ _ _ (g.A.Area.frame c.self.inside.area) _ _ _ _ (DelAttr c.args.name.now) refl _
        c.self.invariant.0.good c.self.invariant.1.starts c.forget_view.ensures.starts c.mark.ensures.image c.mark.ensures.frame c.remove-done.ensures.area.frame c.remove-done.ensures.answers c.settle.ensures.kept c.settle.ensures.undone;
    view = c.forget_view.ensures.view _;
  },
)
