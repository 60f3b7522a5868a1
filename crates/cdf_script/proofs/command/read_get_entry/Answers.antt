use Rattle.cdf_script.proofs.Takes.{hands_on, made}
use Rattle.cdf_script.proofs.command.read_get_entry.Goals as goal

pub returns-in_err-attr : goal.returns-in_err-attr
returns-in_err-attr c = hands_on c.from_residual.ensures.1 (c.in_err-attr.ensures.takes _ _ _)

pub returns-in_err-kind : goal.returns-in_err-kind
returns-in_err-kind c = hands_on c.from_residual-in_err-kind.ensures.1 (c.in_ok-attr.ensures.takes _ _ _ _ (c.in_err-kind.ensures.takes _ _ _))

pub returns-in_err-num : goal.returns-in_err-num
returns-in_err-num c = hands_on c.from_residual-in_err-num.ensures.1 (c.in_ok-attr.ensures.takes _ _ _ _ (c.in_ok-kind.ensures.takes _ _ _ _ (c.in_err-num.ensures.takes _ _ _)))

pub returns : goal.returns
returns c = c.in_ok-attr.ensures.takes _ _ _ _ (c.in_ok-kind.ensures.takes _ _ _ _ (c.in_ok-num.ensures.takes _ _ _ _ (made _ _)))
