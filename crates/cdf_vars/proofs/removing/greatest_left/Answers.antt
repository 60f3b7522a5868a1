use Rattle.cdf_vars.proofs.Common.{FitsSigned, List, VdrsLie, ap, drop, fold, last_fits, max, subst, sym, to_z-of_z, w32, ℕ, ◌+◌, ◌∙◌}
use Rattle.cdf_vars.proofs.RemovalAnswers.{to_the_end, extents, greatest_of_parts, in_taken, in_dropped}
use Rattle.cdf_vars.proofs.removing.greatest_left.Goals as goal

pub greatest_extent-requires-clause-lie : goal.greatest_extent-requires-clause-lie
greatest_extent-requires-clause-lie g c = λ place i. c.requires.lie place (in_taken c.args.places.now c.args.number place i)

pub greatest_extent-requires-in-R-clause-lie : goal.greatest_extent-requires-in-R-clause-lie
greatest_extent-requires-in-R-clause-lie g c =
    let places = c.args.places.now in
    let lie : VdrsLie (g.A.Area.image c.args.area.now) (drop (c.args.number + 1) places) = λ place i. c.requires.lie place (in_dropped places (c.args.number + 1) place i) in
    subst (VdrsLie (g.A.Area.image c.greatest_extent.new.area)) (sym (to_the_end places (c.args.number + 1))) (subst (λ (x : List ℕ). VdrsLie x (drop (c.args.number + 1) places)) (sym c.in_ok-front-in-R.ensures.area.image) lie)

pub returns-in_ok-greatest-in-R-clause-greatest : goal.returns-in_ok-greatest-in-R-clause-greatest
returns-in_ok-greatest-in-R-clause-greatest g c = λ kind.
    let b = g.A.Area.image c.args.area.now in
    let places = c.args.places.now in
    let back = to_z-of_z w32 c.last_number.result (subst (FitsSigned w32) (sym c.last_number.ensures) (last_fits c.in_ok-greatest-in-R.greatest c.in_ok-greatest-in-R.ensures.few)) in
    let second = c.in_ok-greatest-in-R.ensures.greatest ∙ ap (λ (xs : List ℕ). fold max c.in_ok-front-in-R.front (extents (g.A.Area.image c.greatest_extent.new.area) xs)) (to_the_end places (c.args.number + 1)) in
    back ∙ c.last_number.ensures ∙ greatest_of_parts b (g.A.Area.image c.greatest_extent.new.area) c.in_ok-front-in-R.ensures.area.image places c.args.number c.in_ok-front-in-R.front c.in_ok-greatest-in-R.greatest c.in_ok-front-in-R.ensures.greatest second
