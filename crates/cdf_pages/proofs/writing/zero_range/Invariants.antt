use Rattle.cdf_pages.proofs.Common.{IsSome, List, None, get, image_of, nat_cmp, page_at, put, replicate, was, ℕ, ◌*◌, ◌+◌, ◌-◌, ◌/◌, ◌<◌, ◌≡◌, ◌≤◌, ◌⊎◌}
use Rattle.cdf_pages.proofs.writing.zero_range.Given as goal

abbrev pub invariant-loop-done : goal.invariant-loop-done
invariant-loop-done l = record {
  within : l.done ≤ l.n;
  image : (file : List ℕ) → image_of (page_at l.sheets.changed) file (l.fn.sheets.length + l.n) ≡ put (image_of (page_at l.fn.sheets.changed) file (l.fn.sheets.length + l.n)) l.fn.sheets.length (replicate l.done 0);
  less : (q : ℕ) → page_at l.sheets.changed q ≡ None → page_at l.fn.sheets.changed q ≡ None;
  others : (q : ℕ) → (q < l.fn.sheets.length / 65536) ⊎ (l.fn.sheets.length + l.n ≤ q * 65536) → page_at l.sheets.changed q ≡ page_at l.fn.sheets.changed q;
  kept : l.sheets.kept ≡ l.fn.sheets.kept;
  was : IsSome l.fn.sheets.marked → (q : ℕ) → was (get nat_cmp l.fn.sheets.kept q) (page_at l.sheets.changed q) ≡ was (get nat_cmp l.fn.sheets.kept q) (page_at l.fn.sheets.changed q);
  length : l.sheets.length ≡ l.fn.sheets.length + l.n;
  marked : l.sheets.marked ≡ l.fn.sheets.marked;
}

abbrev pub decreases-loop-done : goal.decreases-loop-done
decreases-loop-done l = l.n - l.done
