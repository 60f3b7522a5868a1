use Rattle.cdf_session.proofs.Common.{SetSparse, refl}
use Rattle.cdf_session.proofs.OpenLemmas.{good_stays, ends_on_own}
use Rattle.cdf_session.proofs.session.Session.set_sparse.Goals as goal

pub set_sparse-done-requires-clause-good : goal.set_sparse-done-requires-clause-good
set_sparse-done-requires-clause-good g c = good_stays _ _ c.self.invariant.0.good c.mark.ensures.image

pub invariant_of-self : goal.invariant_of-self
invariant_of-self g c = (
  ends_on_own _ _ _ _ _ _ _ _ _ _ (SetSparse c.args.var.now c.args.rule) (record { not_on_attributes = refl; on_no_entry = λ d n kind. refl }) refl _
      c.self.invariant.0 c.mark.ensures.image c.mark.ensures.frame c.set_sparse-done.ensures.area.frame c.settle.ensures.frame c.set_sparse-done.ensures.answers c.set_sparse-done.ensures.known c.settle.ensures.kept c.settle.ensures.undone,
  c.forget.ensures _,
)
