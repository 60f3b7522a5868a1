use Rattle.cdf_pages.proofs.Common.{AllLieBelow, List, Old, Some, get, length, nat_cmp, page_at, was, ℕ, ◌≡◌}
use Rattle.cdf_pages.proofs.sheets.restore_all.Given as goal

abbrev pub invariant-loop-number : goal.invariant-loop-number
invariant-loop-number l = record {
  was : (q : ℕ) → was (get nat_cmp l.kept q) (page_at l.changed q) ≡ was (get nat_cmp l.fn.kept q) (page_at l.fn.changed q);
  below : (k : ℕ) → (olds : List Old) → get nat_cmp l.kept k ≡ Some (Some olds) → AllLieBelow 65536 olds;
}

abbrev pub decreases-loop-number : goal.decreases-loop-number
decreases-loop-number l = length l.kept.entries
