use Rattle.std.proofs.Common.{◌≡◌, ◌-◌, ◌≤◌, drop}
use Rattle.cdf_script.proofs.arguments.Arguments.place_of_word.Given as goal

abbrev pub invariant-loop-passed : goal.invariant-loop-passed
invariant-loop-passed l = record {
  so_far : drop l.passed l.self ≡ l.left;
  below : l.passed ≤ l.number;
}

abbrev pub decreases-loop-passed : goal.decreases-loop-passed
decreases-loop-passed l = l.number - l.passed
