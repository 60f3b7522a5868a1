use Rattle.cdf_session.proofs.Common.{PutVal, refl}
use Rattle.cdf_session.proofs.OpenLemmas.{good_stays, ends_on_records}
use Rattle.cdf_session.proofs.session.Session.put_val.Goals as goal

pub put_val-done-requires-clause-good : goal.put_val-done-requires-clause-good
put_val-done-requires-clause-good g c = good_stays _ _ c.self.invariant.0.good c.mark.ensures.image

pub invariant_of-self : goal.invariant_of-self
invariant_of-self g c =
    let ends = ends_on_records _ _ _ _ _ _ _ _ _ _ _ (PutVal c.args.var.now c.args.rec c.args.index.now c.args.words.now) (record { not_on_attributes = refl; on_no_entry = λ d n kind. refl }) refl _
    c.self.invariant.0 c.mark.ensures.image c.mark.ensures.frame c.put_val-done.ensures.area.frame c.settle.ensures.frame c.put_val-done.ensures.answers c.put_val-done.ensures.known c.put_val-done.ensures.starts c.put_val-done.ensures.starts_stay c.settle.ensures.kept c.settle.ensures.undone in
    (ends.0, record { starts = ends.1; view = c.forget_view.ensures.view _ })
