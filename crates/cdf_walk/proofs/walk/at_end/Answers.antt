use Rattle.std.proofs.Common.{◌∙◌, ◌∷◌, ap, sym}
use Rattle.cdf_model.specs.declared.spot.Spot.TheVariants as spots
use Rattle.cdf_model.specs.Spots.{rest}
use Rattle.cdf_walk.proofs.Steps as steps
use Rattle.cdf_walk.proofs.walk.at_end.Goals as goal

pub returns-clause-step : goal.returns-clause-step
returns-clause-step g c =
    let d = g.P.Parts.told c.args.parts.now in
    (steps.at_end d ∙ ap (λ x. x ∷ rest d spots.Behind) (sym (c.in_ok-event.ensures.value (steps.all_counted d c.args.counted c.requires))), tt)
