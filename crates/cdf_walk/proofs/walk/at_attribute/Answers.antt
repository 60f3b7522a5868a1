use Rattle.std.proofs.Common.{◌∙◌, arith, sym}
use Rattle.cdf_walk.proofs.Steps as steps
use Rattle.cdf_walk.proofs.walk.at_attribute.Goals as goal

pub returns-in_default-clause-step : goal.returns-in_default-clause-step
returns-in_default-clause-step g c = (steps.past_attributes (g.P.Parts.told c.args.parts.now) c.args.num (sym c.in_default.is ∙ c.in_ok-event.ensures.value), tt, omega arith)

pub returns-clause-step : goal.returns-clause-step
returns-clause-step g c = (steps.at_attribute (g.P.Parts.told c.args.parts.now) c.args.num c.in-Some.event (sym c.in-Some.is ∙ c.in_ok-event.ensures.value), (rw c.in-Some.is at c.in_ok-event.ensures.few))
