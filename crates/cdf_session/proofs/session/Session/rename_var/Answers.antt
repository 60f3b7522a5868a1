use Rattle.cdf_session.proofs.Common.{RenameVar, refl}
use Rattle.cdf_session.proofs.OpenLemmas.{good_stays, ends_on_variables}
use Rattle.cdf_session.proofs.session.Session.rename_var.Goals as goal

pub rename-done-requires-clause-good : goal.rename-done-requires-clause-good
rename-done-requires-clause-good g c = good_stays _ _ c.self.invariant.0.good c.mark.ensures.image

pub invariant_of-self : goal.invariant_of-self
invariant_of-self g c = (
  ends_on_variables _ _ _ _ _ _ _ _ _ _ _ (RenameVar c.args.from.now c.args.to.now) (record { not_on_attributes = refl; on_no_entry = λ d n kind. refl }) refl _
      c.self.invariant.0 c.mark.ensures.image c.mark.ensures.frame c.rename-done.ensures.area.frame c.settle.ensures.frame c.rename-done.ensures.answers c.rename-done.ensures.known c.rename-done.ensures.stays c.settle.ensures.kept c.settle.ensures.undone,
  c.forget.ensures _,
)
