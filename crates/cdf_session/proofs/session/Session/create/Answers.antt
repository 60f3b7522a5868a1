use Rattle.cdf_session.proofs.Common.{Frame, Some, ap, sym, ◌∙◌, ◌≡◌}
use Rattle.cdf_session.proofs.NewFileLemmas.{new_open}
use Rattle.cdf_session.proofs.OpenLemmas.{frame_back}
use Rattle.cdf_session.proofs.Explained.{explained}
use Rattle.cdf_session.proofs.session.Session.create.Goals as goal

pub invariant_of-result : goal.invariant_of-result
invariant_of-result g c = (
  new_open (g.A.Area.image c.args.area) (g.A.Area.image c.write_new.new.area) (g.A.Area.image c.keep.new.self)
      (g.A.Area.frame c.args.area) (g.A.Area.frame c.mark.new.self) (g.A.Area.frame c.write_new.new.area) (g.A.Area.frame c.keep.new.self) c.in-Ok.loaded.attrs c.in-Ok.loaded.vars
      c.requires.unmarked c.requires.room c.requires.limit c.mark.ensures.frame c.write_new.ensures.area.frame c.keep.ensures.frame
      c.in-Ok.ensures.image c.keep.ensures.image c.in-Ok.ensures.known.attributes c.in-Ok.ensures.known.variables,
  c.new.ensures _,
)

pub returns-in-Err-clause-area : goal.returns-in-Err-clause-area
returns-in-Err-clause-area g c =
    let why = explained c.in-Err.error _ _ c.in-Err.ensures.area.cause in
    let marked = c.write_new.ensures.area.frame ∙ c.mark.ensures.frame in
    let undone : Some (g.A.Area.image c.args.area) ≡ Some (g.A.Area.image c.undo.new.self) = sym (ap (λ (m : Frame _). m.base) marked) ∙ c.undo.ensures.image in
    record {
      frame = tt;
      counted = tt;
      image = cc undone;
      frame_back = frame_back _ _ _ _ c.requires.unmarked marked c.undo.ensures.frame;
      cause = rw (c.undo.ensures.faults, ← c.mark.ensures.faults) why;
    }
