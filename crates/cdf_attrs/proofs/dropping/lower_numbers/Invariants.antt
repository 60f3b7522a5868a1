use Rattle.cdf_attrs.proofs.Common.{drop, lower_writes, map, write_of, ◌++◌, ◌≡◌}
use Rattle.cdf_attrs.proofs.dropping.lower_numbers.Given as goal

abbrev pub invariant-loop-i : goal.invariant-loop-i
invariant-loop-i l = map write_of l.lower.items ++ lower_writes l.num (drop l.i l.entries.numbers) (drop l.i l.entries.places) ≡ lower_writes l.num l.entries.numbers l.entries.places
