use Rattle.cdf_session.proofs.Common.{RVar, refl}
use Rattle.cdf_session.proofs.OpenLemmas.{good_stays, ends_on_variables}
use Rattle.cdf_session.proofs.session.Session.rvar.Goals as goal

pub create_r-done-requires-clause-good : goal.create_r-done-requires-clause-good
create_r-done-requires-clause-good g c = good_stays _ _ c.self.invariant.0.good c.mark.ensures.image

pub invariant_of-self : goal.invariant_of-self
invariant_of-self g c = (
  ends_on_variables _ _ _ _ _ _ _ _ _ _ _ (RVar c.args.name.now c.args.t c.args.elems c.args.vary c.args.varys.now) (record { not_on_attributes = refl; on_no_entry = λ d n kind. refl }) refl _
      c.self.invariant.0 c.mark.ensures.image c.mark.ensures.frame c.create_r-done.ensures.area.frame c.settle.ensures.frame c.create_r-done.ensures.answers c.create_r-done.ensures.known c.create_r-done.ensures.stays c.settle.ensures.kept c.settle.ensures.undone,
  c.forget.ensures _,
)
