use Rattle.cdf_pages.proofs.Common.{None, length, page_at, ℕ, ◌-◌, ◌<◌, ◌≡◌, ◌≤◌}
use Rattle.cdf_pages.proofs.table.Table.first_from.Given as goal

abbrev pub invariant-loop-at : goal.invariant-loop-at
invariant-loop-at l = record {
  behind : l.fn.from ≤ l.at;
  none : (other : ℕ) → l.fn.from ≤ other → other < l.at → page_at l.self other ≡ None;
}

abbrev pub decreases-loop-at : goal.decreases-loop-at
decreases-loop-at l = length l.self - l.at
