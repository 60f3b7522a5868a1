use Rattle.cdf_script.proofs.Takes.{hands_on, made}
use Rattle.cdf_script.proofs.command.read_setup.Goals as goal

pub returns-in_err-encoding : goal.returns-in_err-encoding
returns-in_err-encoding c = hands_on c.from_residual.ensures.1 (c.in_err-encoding.ensures.takes _ _ _)

pub returns-in_err-majority : goal.returns-in_err-majority
returns-in_err-majority c = hands_on c.from_residual-in_err-majority.ensures.1 (c.in_ok-encoding.ensures.takes _ _ _ _ (c.in_err-majority.ensures.takes _ _ _))

pub returns-in_err-dims : goal.returns-in_err-dims
returns-in_err-dims c = hands_on c.from_residual-in_err-dims.ensures.1 (c.in_ok-encoding.ensures.takes _ _ _ _ (c.in_ok-majority.ensures.takes _ _ _ _ (c.in_err-dims.ensures.takes _ _ _)))

pub returns : goal.returns
returns c = c.in_ok-encoding.ensures.takes _ _ _ _ (c.in_ok-majority.ensures.takes _ _ _ _ (c.in_ok-dims.ensures.takes _ _ _ _ (made _ _)))
