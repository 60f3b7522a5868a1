use Rattle.cdf_session.proofs.Common.{SetBlocking, refl}
use Rattle.cdf_session.proofs.OpenLemmas.{good_stays, ends_on_variables}
use Rattle.cdf_session.proofs.session.Session.set_blocking.Goals as goal

pub set_blocking-done-requires-clause-good : goal.set_blocking-done-requires-clause-good
set_blocking-done-requires-clause-good g c = good_stays _ _ c.self.invariant.0.good c.mark.ensures.image

pub invariant_of-self : goal.invariant_of-self
invariant_of-self g c = (
  ends_on_variables _ _ _ _ _ _ _ _ _ _ _ (SetBlocking c.args.var.now c.args.n) (record { not_on_attributes = refl; on_no_entry = λ d n kind. refl }) refl _
      c.self.invariant.0 c.mark.ensures.image c.mark.ensures.frame c.set_blocking-done.ensures.area.frame c.settle.ensures.frame c.set_blocking-done.ensures.answers c.set_blocking-done.ensures.known c.set_blocking-done.ensures.stays c.settle.ensures.kept c.settle.ensures.undone,
  c.forget.ensures _,
)
