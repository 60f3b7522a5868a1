use Rattle.std.proofs.Common.{arith}
use Rattle.cdf_model.specs.declared.command.Command.TheVariants as commands
use Rattle.cdf_script.proofs.Takes.{hands_on, one_value}
use Rattle.cdf_script.proofs.command.read_set_pad.Goals as goal

pub returns-in_err-var : goal.returns-in_err-var
returns-in_err-var c = hands_on c.from_residual.ensures.1 (c.in_err-var.ensures.takes _ _ _)

pub returns : goal.returns
returns c = c.in_ok-var.ensures.takes _ _ _ _ (one_value (λ words. commands.SetPad c.in_ok-var.var words) c.in_ok-words.ensures (omega (arith, c.in_ok-var.ensures.left)))
