use Rattle.cdf_script.proofs.Takes.{hands_on, made}
use Rattle.cdf_script.proofs.command.read_del_recs.Goals as goal

pub returns-in_err-var : goal.returns-in_err-var
returns-in_err-var c = hands_on c.from_residual.ensures.1 (c.in_err-var.ensures.takes _ _ _)

pub returns-in_err-first : goal.returns-in_err-first
returns-in_err-first c = hands_on c.from_residual-in_err-first.ensures.1 (c.in_ok-var.ensures.takes _ _ _ _ (c.in_err-first.ensures.takes _ _ _))

pub returns-in_err-last : goal.returns-in_err-last
returns-in_err-last c = hands_on c.from_residual-in_err-last.ensures.1 (c.in_ok-var.ensures.takes _ _ _ _ (c.in_ok-first.ensures.takes _ _ _ _ (c.in_err-last.ensures.takes _ _ _)))

pub returns : goal.returns
returns c = c.in_ok-var.ensures.takes _ _ _ _ (c.in_ok-first.ensures.takes _ _ _ _ (c.in_ok-last.ensures.takes _ _ _ _ (made _ _)))
