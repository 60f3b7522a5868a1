use Rattle.std.proofs.Common.{◌≡◌, ◌++◌, drop, length}
use Rattle.std.specs.List.{zip}
use Rattle.cdf_attrs.proofs.entry_order.paired.Given as goal

abbrev pub invariant-loop-number : goal.invariant-loop-number
invariant-loop-number l = l.pairs.items ++ zip (drop (length l.yielded) l.numbers) (drop (length l.yielded) l.places) ≡ zip l.numbers l.places
