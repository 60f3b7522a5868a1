use Rattle.std.proofs.Common.{◌∙◌, ◌∷◌, ap, sym}
use Rattle.cdf_model.specs.declared.event.Event.TheVariants as events
use Rattle.cdf_model.specs.declared.spot.Spot.TheVariants as spots
use Rattle.cdf_model.specs.Spots.{rest}
use Rattle.cdf_walk.proofs.Steps as steps
use Rattle.cdf_walk.proofs.walk.at_head.Goals as goal

pub returns-clause-step : goal.returns-clause-step
returns-clause-step g c =
    let d = g.P.Parts.told c.args.parts.now in
    (steps.at_head d ∙ ap (λ h. events.Head h ∷ rest d (spots.Attr 0)) (sym c.in_ok-head.ensures.value), tt)
