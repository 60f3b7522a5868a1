use Rattle.std.proofs.Common.{arith}
use Rattle.cdf_model.specs.declared.command.Command.TheVariants as commands
use Rattle.cdf_script.proofs.Takes.{hands_on, one_value}
use Rattle.cdf_script.proofs.command.read_put_val.Goals as goal

pub returns-in_err-var : goal.returns-in_err-var
returns-in_err-var c = hands_on c.from_residual.ensures.1 (c.in_err-var.ensures.takes _ _ _)

pub returns-in_err-rec : goal.returns-in_err-rec
returns-in_err-rec c = hands_on c.from_residual-in_err-rec.ensures.1 (c.in_ok-var.ensures.takes _ _ _ _ (c.in_err-rec.ensures.takes _ _ _))

pub returns-in_err-index : goal.returns-in_err-index
returns-in_err-index c = hands_on c.from_residual-in_err-index.ensures.1 (c.in_ok-var.ensures.takes _ _ _ _ (c.in_ok-rec.ensures.takes _ _ _ _ (c.in_err-index.ensures.takes _ _ _)))

pub returns : goal.returns
returns c = c.in_ok-var.ensures.takes _ _ _ _ (c.in_ok-rec.ensures.takes _ _ _ _ (c.in_ok-index.ensures.takes _ _ _ _ (one_value (λ words. commands.PutVal c.in_ok-var.var c.in_ok-rec.rec c.in_ok-index.index words) c.in_ok-words.ensures (omega (arith, c.in_ok-var.ensures.left, c.in_ok-rec.ensures.left, c.in_ok-index.ensures.left)))))
