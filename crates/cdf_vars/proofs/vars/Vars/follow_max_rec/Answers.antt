use Rattle.cdf_vars.proofs.Common.{FitsSigned, VdrsLie, last_fits, subst, sym, to_z-of_z, w32, ◌∙◌}
use Rattle.cdf_vars.proofs.PutRaised.{greatest_written}
use Rattle.cdf_vars.proofs.vars.Vars.follow_max_rec.Goals as goal

pub greatest_extent-requires-clause-lie : goal.greatest_extent-requires-clause-lie
greatest_extent-requires-clause-lie g c = subst (VdrsLie (g.A.Area.image c.args.area.now)) (sym (c.deref.ensures.value ∙ (λ i. (c.self-inside.view_is i).r.places) ∙ (λ i. (c.self.view_is i).r.places))) c.requires.lie

pub returns-in_ok-greatest-in-R-clause-written : goal.returns-in_ok-greatest-in-R-clause-written
returns-in_ok-greatest-in-R-clause-written g c =
    let places = c.deref.ensures.value ∙ (λ i. (c.self-inside.view_is i).r.places) ∙ (λ i. (c.self.view_is i).r.places) in
    let back = to_z-of_z w32 c.last_number.result (subst (FitsSigned w32) (sym c.last_number.ensures) (last_fits c.in_ok-greatest-in-R.greatest c.in_ok-greatest-in-R.ensures.few)) in
    greatest_written _ _ c.set_greatest.result c.greatest_extent.ensures.area.image places c.in_ok-greatest-in-R.ensures.greatest (back ∙ c.last_number.ensures) c.set_greatest.ensures.written
