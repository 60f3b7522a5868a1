use Rattle.cdf_session.proofs.Common.{Setup, refl}
use Rattle.cdf_session.proofs.OpenLemmas.{good_stays, ends_on_neither}
use Rattle.cdf_session.proofs.session.Session.setup.Goals as goal

pub set_up-done-requires-clause-good : goal.set_up-done-requires-clause-good
set_up-done-requires-clause-good g c = good_stays _ _ c.self.invariant.0.good c.mark.ensures.image

pub invariant_of-self : goal.invariant_of-self
invariant_of-self g c = (
  ends_on_neither _ _ _ _ _ _ _ _ _ _ (Setup c.args.encoding c.args.majority c.args.dims.now) (record { not_on_attributes = refl; on_no_entry = λ d n kind. refl }) refl refl _
      c.self.invariant.0 c.mark.ensures.image c.mark.ensures.frame c.set_up-done.ensures.area.frame c.settle.ensures.frame c.set_up-done.ensures.answers c.settle.ensures.kept c.settle.ensures.undone,
  c.forget.ensures _,
)
