use Rattle.cdf_session.proofs.Common.{Reindex, refl}
use Rattle.cdf_session.proofs.OpenLemmas.{good_stays, ends_on_variables}
use Rattle.cdf_session.proofs.session.Session.reindex.Goals as goal

pub reindex-done-requires-clause-good : goal.reindex-done-requires-clause-good
reindex-done-requires-clause-good g c = good_stays _ _ c.self.invariant.0.good c.mark.ensures.image

pub invariant_of-self : goal.invariant_of-self
invariant_of-self g c = (
  ends_on_variables _ _ _ _ _ _ _ _ _ _ _ (Reindex c.args.var.now) (record { not_on_attributes = refl; on_no_entry = λ d n kind. refl }) refl _
      c.self.invariant.0 c.mark.ensures.image c.mark.ensures.frame c.reindex-done.ensures.area.frame c.settle.ensures.frame c.reindex-done.ensures.answers c.reindex-done.ensures.known c.reindex-done.ensures.stays c.settle.ensures.kept c.settle.ensures.undone,
  c.forget.ensures _,
)
