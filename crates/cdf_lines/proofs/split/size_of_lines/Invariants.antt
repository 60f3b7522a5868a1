use Rattle.std.proofs.Common.{◌≤◌, length}
use Rattle.cdf_lines.proofs.split.size_of_lines.Given as goal

abbrev pub invariant-loop-size : goal.invariant-loop-size
invariant-loop-size l = l.size ≤ length l.text

abbrev pub decreases-loop-size : goal.decreases-loop-size
decreases-loop-size l = l.size
