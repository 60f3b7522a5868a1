use Rattle.std.proofs.Common.{◌∙◌, ap}
use Rattle.cdf_model.specs.Spots.{rest}
use Rattle.cdf_walk.proofs.Steps as steps
use Rattle.cdf_walk.proofs.walk.step_at.Goals as goal

pub returns-in-Behind-clause-step : goal.returns-in-Behind-clause-step
returns-in-Behind-clause-step g c = let d = g.P.Parts.told c.args.parts.now in ap (rest d) c.in-Behind.is ∙ steps.at_behind d
