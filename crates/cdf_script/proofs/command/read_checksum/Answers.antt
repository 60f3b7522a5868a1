use Rattle.cdf_script.proofs.Takes.{hands_on, made}
use Rattle.cdf_script.proofs.command.read_checksum.Goals as goal

pub returns-in_err-md5 : goal.returns-in_err-md5
returns-in_err-md5 c = hands_on c.from_residual.ensures.1 (c.in_err-md5.ensures.takes _ _ _)

pub returns : goal.returns
returns c = c.in_ok-md5.ensures.takes _ _ _ _ (made _ _)
