use Rattle.cdf_session.proofs.Common.{PutEntry, refl}
use Rattle.cdf_session.proofs.OpenLemmas.{good_stays, ends_open, ends_with_starts}
use Rattle.cdf_session.proofs.session.Session.put_entry.Goals as goal

pub put_entry-done-requires-clause-good : goal.put_entry-done-requires-clause-good
put_entry-done-requires-clause-good g c = good_stays (g.A.Area.image c.self.inside.area) (g.A.Area.image c.mark.new.self) c.self.invariant.0.good c.mark.ensures.image

pub invariant_of-self : goal.invariant_of-self
invariant_of-self g c = (
  ends_open (g.A.Area.image c.self.inside.area) (g.A.Area.image c.mark.new.self) (g.A.Area.image c.put_entry-done.new.area) (g.A.Area.image c.settle.new.area)
      (g.A.Area.frame c.self.inside.area) (g.A.Area.frame c.mark.new.self) (g.A.Area.frame c.put_entry-done.new.area) (g.A.Area.frame c.settle.new.area)
      c.self.inside.attrs c.put_entry-done.new.self c.self.inside.vars (PutEntry c.args.attr.now c.args.kind c.args.num c.args.t c.args.words.now) refl refl c.put_entry-done.result
      c.self.invariant.0 c.mark.ensures.image c.mark.ensures.frame c.put_entry-done.ensures.area.frame c.settle.ensures.frame
      c.put_entry-done.ensures.answers c.put_entry-done.ensures.known c.put_entry-done.ensures.stays c.settle.ensures.kept c.settle.ensures.undone,
  record {
    starts = ends_with_starts _ _ _ _ (g.A.Area.frame c.self.inside.area) _ _ _ _ (PutEntry c.args.attr.now c.args.kind c.args.num c.args.t c.args.words.now) refl _
        c.self.invariant.0.good c.self.invariant.1.starts c.forget_view.ensures.starts c.mark.ensures.image c.mark.ensures.frame c.put_entry-done.ensures.area.frame c.put_entry-done.ensures.answers c.settle.ensures.kept c.settle.ensures.undone;
    view = c.forget_view.ensures.view _;
  },
)
