use Rattle.cdf_structure.proofs.Common.{is_in, take, ℕ, ◌≡◌}
use Rattle.std.specs.BTreeSet.{contains}
use Rattle.std.specs.Ordering.{nat_cmp}
use Rattle.cdf_structure.proofs.met.set_of.Given as goal

abbrev pub invariant-loop-number : goal.invariant-loop-number
invariant-loop-number l = record {
  same : (n : ℕ) → contains nat_cmp l.set n ≡ is_in n (take l.number-index l.list);
}
