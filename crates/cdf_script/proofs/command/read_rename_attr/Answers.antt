use Rattle.cdf_script.proofs.Takes.{hands_on, made}
use Rattle.cdf_script.proofs.command.read_rename_attr.Goals as goal

pub returns-in_err-from : goal.returns-in_err-from
returns-in_err-from c = hands_on c.from_residual.ensures.1 (c.in_err-from.ensures.takes _ _ _)

pub returns-in_err-to : goal.returns-in_err-to
returns-in_err-to c = hands_on c.from_residual-in_err-to.ensures.1 (c.in_ok-from.ensures.takes _ _ _ _ (c.in_err-to.ensures.takes _ _ _))

pub returns : goal.returns
returns c = c.in_ok-from.ensures.takes _ _ _ _ (c.in_ok-to.ensures.takes _ _ _ _ (made _ _))
