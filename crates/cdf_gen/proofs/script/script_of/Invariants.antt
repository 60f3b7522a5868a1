use Rattle.std.proofs.Common.{◌≡◌, ◌-◌, ◌++◌}
use Rattle.cdf_gen.specs.Generated.{lines_behind, script_of}
use Rattle.cdf_gen.proofs.script.script_of.Given as goal

abbrev pub invariant-loop : goal.invariant-loop
invariant-loop l = l.script.items ++ lines_behind l.x (l.n - l.counter) ≡ script_of l.fn.n
