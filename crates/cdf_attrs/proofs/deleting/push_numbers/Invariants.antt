use Rattle.cdf_attrs.proofs.Common.{adr_num, drop, entry_numbers, map, write, write_of, ◌++◌, ◌∷◌, ◌≡◌}
use Rattle.cdf_attrs.proofs.deleting.push_numbers.Given as goal

abbrev pub invariant-loop-entry : goal.invariant-loop-entry
invariant-loop-entry l = record { pushed : map write_of l.numbers.items ++ entry_numbers (drop l.entry-index l.entries) l.number ≡ map write_of l.fn.numbers.items ++ write l.adr adr_num l.number ∷ entry_numbers l.entries l.number }
