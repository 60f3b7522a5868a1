use Rattle.cdf_pages.proofs.Common.{length, page_at, ℕ, ◌+◌, ◌-◌, ◌≡◌}
use Rattle.cdf_pages.proofs.table.reach.Given as goal

abbrev pub invariant-loop-slots : goal.invariant-loop-slots
invariant-loop-slots l = (number : ℕ) → page_at l.slots.items number ≡ page_at l.fn.slots.items number

abbrev pub decreases-loop-slots : goal.decreases-loop-slots
decreases-loop-slots l = l.fn.at + 1 - length l.slots.items
