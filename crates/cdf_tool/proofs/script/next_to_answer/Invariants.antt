use Rattle.cdf_tool.proofs.Common.{Passes, length}
use Rattle.cdf_tool.proofs.script.next_to_answer.Given as goal

abbrev pub invariant-ready : goal.invariant-ready
invariant-ready l = Passes l.fn.lines l.lines

abbrev pub decreases-ready : goal.decreases-ready
decreases-ready l = length l.lines.ready
