use Rattle.cdf_script.proofs.Takes.{hands_on, made}
use Rattle.cdf_script.proofs.command.read_report.Goals as goal

pub returns-in_err-tap : goal.returns-in_err-tap
returns-in_err-tap c = hands_on c.from_residual.ensures.1 (c.in_err-tap.ensures.takes _ _ _)

pub returns : goal.returns
returns c = c.in_ok-tap.ensures.takes _ _ _ _ (made _ _)
