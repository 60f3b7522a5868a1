use Rattle.cdf_script.proofs.Takes.{hands_on, made}
use Rattle.cdf_script.proofs.command.read_del_attr.Goals as goal

pub returns-in_err-name : goal.returns-in_err-name
returns-in_err-name c = hands_on c.from_residual.ensures.1 (c.in_err-name.ensures.takes _ _ _)

pub returns : goal.returns
returns c = c.in_ok-name.ensures.takes _ _ _ _ (made _ _)
