use Rattle.cdf_session.proofs.Common.{RenameAttr, refl}
use Rattle.cdf_session.proofs.OpenLemmas.{good_stays, ends_open, ends_with_starts}
use Rattle.cdf_session.proofs.session.Session.rename_attr.Goals as goal

pub rename-done-requires-clause-good : goal.rename-done-requires-clause-good
rename-done-requires-clause-good g c = good_stays (g.A.Area.image c.self.inside.area) (g.A.Area.image c.mark.new.self) c.self.invariant.0.good c.mark.ensures.image

pub invariant_of-self : goal.invariant_of-self
invariant_of-self g c = (
  ends_open (g.A.Area.image c.self.inside.area) (g.A.Area.image c.mark.new.self) (g.A.Area.image c.rename-done.new.area) (g.A.Area.image c.settle.new.area)
      (g.A.Area.frame c.self.inside.area) (g.A.Area.frame c.mark.new.self) (g.A.Area.frame c.rename-done.new.area) (g.A.Area.frame c.settle.new.area)
      c.self.inside.attrs c.rename-done.new.self c.self.inside.vars (RenameAttr c.args.from.now c.args.to.now) refl refl c.rename-done.result
      c.self.invariant.0 c.mark.ensures.image c.mark.ensures.frame c.rename-done.ensures.area.frame c.settle.ensures.frame
      c.rename-done.ensures.answers c.rename-done.ensures.known c.rename-done.ensures.stays c.settle.ensures.kept c.settle.ensures.undone,
  record {
    starts = ends_with_starts _ _ _ _ (g.A.Area.frame c.self.inside.area) _ _ _ _ (RenameAttr c.args.from.now c.args.to.now) refl _
        c.self.invariant.0.good c.self.invariant.1.starts c.forget_view.ensures.starts c.mark.ensures.image c.mark.ensures.frame c.rename-done.ensures.area.frame c.rename-done.ensures.answers c.settle.ensures.kept c.settle.ensures.undone;
    view = c.forget_view.ensures.view _;
  },
)
