use Rattle.cdf_script.proofs.Takes.{hands_on, made}
use Rattle.cdf_script.proofs.command.read_zvar.Goals as goal

pub returns-in_err-name : goal.returns-in_err-name
returns-in_err-name c = hands_on c.from_residual.ensures.1 (c.in_err-name.ensures.takes _ _ _)

pub returns-in_err-t : goal.returns-in_err-t
returns-in_err-t c = hands_on c.from_residual-in_err-t.ensures.1 (c.in_ok-name.ensures.takes _ _ _ _ (c.in_err-t.ensures.takes _ _ _))

pub returns-in_err-elems : goal.returns-in_err-elems
returns-in_err-elems c = hands_on c.from_residual-in_err-elems.ensures.1 (c.in_ok-name.ensures.takes _ _ _ _ (c.in_ok-t.ensures.takes _ _ _ _ (c.in_err-elems.ensures.takes _ _ _)))

pub returns-in_err-vary : goal.returns-in_err-vary
returns-in_err-vary c = hands_on c.from_residual-in_err-vary.ensures.1 (c.in_ok-name.ensures.takes _ _ _ _ (c.in_ok-t.ensures.takes _ _ _ _ (c.in_ok-elems.ensures.takes _ _ _ _ (c.in_err-vary.ensures.takes _ _ _))))

pub returns-in_err-dims : goal.returns-in_err-dims
returns-in_err-dims c = hands_on c.from_residual-in_err-dims.ensures.1 (c.in_ok-name.ensures.takes _ _ _ _ (c.in_ok-t.ensures.takes _ _ _ _ (c.in_ok-elems.ensures.takes _ _ _ _ (c.in_ok-vary.ensures.takes _ _ _ _ (c.in_err-dims.ensures.takes _ _ _)))))

pub returns-in_err-varys : goal.returns-in_err-varys
returns-in_err-varys c = hands_on c.from_residual-in_err-varys.ensures.1 (c.in_ok-name.ensures.takes _ _ _ _ (c.in_ok-t.ensures.takes _ _ _ _ (c.in_ok-elems.ensures.takes _ _ _ _ (c.in_ok-vary.ensures.takes _ _ _ _ (c.in_ok-dims.ensures.takes _ _ _ _ (c.in_err-varys.ensures.takes _ _ _))))))

pub returns : goal.returns
returns c = c.in_ok-name.ensures.takes _ _ _ _ (c.in_ok-t.ensures.takes _ _ _ _ (c.in_ok-elems.ensures.takes _ _ _ _ (c.in_ok-vary.ensures.takes _ _ _ _ (c.in_ok-dims.ensures.takes _ _ _ _ (c.in_ok-varys.ensures.takes _ _ _ _ (made _ _))))))
