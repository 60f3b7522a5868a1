use Rattle.std.proofs.Common.{◌∙◌, sym}
use Rattle.cdf_walk.proofs.Steps as steps
use Rattle.cdf_walk.proofs.walk.at_variable.Goals as goal

pub returns-in_default-clause-step : goal.returns-in_default-clause-step
returns-in_default-clause-step g c = steps.passes_variables (g.P.Parts.told c.args.parts.now) c.args.kind c.args.num _ c.behind_variables-next.ensures (sym c.in_default.is ∙ c.in_ok-event.ensures.value)

pub returns-clause-step : goal.returns-clause-step
returns-clause-step g c = (steps.at_variable (g.P.Parts.told c.args.parts.now) c.args.kind c.args.num c.in-Some.event (sym c.in-Some.is ∙ c.in_ok-event.ensures.value), (rw c.in-Some.is at c.in_ok-event.ensures.few))
