use Rattle.cdf_session.proofs.Common.{PutRec, refl}
use Rattle.cdf_session.proofs.OpenLemmas.{good_stays, ends_on_records}
use Rattle.cdf_session.proofs.session.Session.put_rec.Goals as goal

pub put_rec-done-requires-clause-good : goal.put_rec-done-requires-clause-good
put_rec-done-requires-clause-good g c = good_stays _ _ c.self.invariant.0.good c.mark.ensures.image

pub invariant_of-self : goal.invariant_of-self
invariant_of-self g c =
    let ends = ends_on_records _ _ _ _ _ _ _ _ _ _ _ (PutRec c.args.var.now c.args.rec c.args.words.now) (record { not_on_attributes = refl; on_no_entry = λ d n kind. refl }) refl _
    c.self.invariant.0 c.mark.ensures.image c.mark.ensures.frame c.put_rec-done.ensures.area.frame c.settle.ensures.frame c.put_rec-done.ensures.answers c.put_rec-done.ensures.known c.put_rec-done.ensures.starts c.put_rec-done.ensures.starts_stay c.settle.ensures.kept c.settle.ensures.undone in
    (ends.0, record { starts = ends.1; view = c.forget_view.ensures.view _ })
