use Rattle.cdf_model.proofs.SayableForms.{sayable-line, sayable-kept}
use Rattle.cdf_model.proofs.laws.a_command_is_sayable.Goals as goal

pub returns : goal.returns
returns c = record { line = sayable-line; kept = sayable-kept }
