use Rattle.cdf_script.proofs.Escapes.{no_fault}
use Rattle.cdf_script.proofs.meaning.check_meaning.Goals as goal

pub returns-clause-ok : goal.returns-clause-ok
returns-clause-ok c = no_fault _ c.loop-unit.place c.loop-unit.left.now c.loop-unit.invariant.fault (rw c.in_default.is at c.in_ok-unit.ensures.means)
