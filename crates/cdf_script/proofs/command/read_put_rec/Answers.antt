use Rattle.cdf_script.proofs.Takes.{hands_on, all_values}
use Rattle.cdf_script.proofs.command.read_put_rec.Goals as goal

pub returns-in_err-var : goal.returns-in_err-var
returns-in_err-var c = hands_on c.from_residual.ensures.1 (c.in_err-var.ensures.takes _ _ _)

pub returns-in_err-rec : goal.returns-in_err-rec
returns-in_err-rec c = hands_on c.from_residual-in_err-rec.ensures.1 (c.in_ok-var.ensures.takes _ _ _ _ (c.in_err-rec.ensures.takes _ _ _))

pub returns : goal.returns
returns c = c.in_ok-var.ensures.takes _ _ _ _ (c.in_ok-rec.ensures.takes _ _ _ _ (all_values _ c.in_ok-words.ensures))
