use Rattle.cdf_script.proofs.Takes.{hands_on, made}
use Rattle.cdf_script.proofs.command.read_set_blocking.Goals as goal

pub returns-in_err-var : goal.returns-in_err-var
returns-in_err-var c = hands_on c.from_residual.ensures.1 (c.in_err-var.ensures.takes _ _ _)

pub returns-in_err-n : goal.returns-in_err-n
returns-in_err-n c = hands_on c.from_residual-in_err-n.ensures.1 (c.in_ok-var.ensures.takes _ _ _ _ (c.in_err-n.ensures.takes _ _ _))

pub returns : goal.returns
returns c = c.in_ok-var.ensures.takes _ _ _ _ (c.in_ok-n.ensures.takes _ _ _ _ (made _ _))
