use Rattle.std.proofs.Common.{◌≡◌}
use Rattle.cdf_bench.proofs.undo.write_often.Given as goal

abbrev pub invariant-loop : goal.invariant-loop
invariant-loop g l = record {
  frame : g.A.Area.frame l.area ≡ g.A.Area.frame l.fn.area;
}
