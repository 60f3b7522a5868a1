use Rattle.cdf_pages.proofs.Common.{Disk, HasBehind, HoldsBetween, IsTrue, LiesIn, List, None, Touches, false, file_of, image_of, is_in, length, page_at, pages_before, pages_held, pages_to, slice_index, ℕ, ◌*◌, ◌++◌, ◌+◌, ◌<◌, ◌≡◌, ◌≤◌}
use Rattle.cdf_pages.specs.Saving.{WritesOver}
use Rattle.std.proofs.Common.{IsSome}
use Rattle.cdf_pages.proofs.saving.save_pages.Given as goal

abbrev pub invariant-loop-number : goal.invariant-loop-number
invariant-loop-number g l = record {
  image : image_of (page_at l.sheets.changed) (file_of (g.S.Store.disk l.store)) l.fn.sheets.length ≡ image_of (page_at l.fn.sheets.changed) (file_of (g.S.Store.disk l.fn.store)) l.fn.sheets.length;
  long : length (file_of (g.S.Store.disk l.store)) ≡ length (file_of (g.S.Store.disk l.fn.store));
  behind : HasBehind (page_at l.sheets.changed) (file_of (g.S.Store.disk l.store)) l.end l.fn.sheets.length;
  same : (i : ℕ) → l.end ≤ i → slice_index (file_of (g.S.Store.disk l.store)) i ≡ slice_index (file_of (g.S.Store.disk l.fn.store)) i;
  less : (number : ℕ) → page_at l.fn.sheets.changed number ≡ None → page_at l.sheets.changed number ≡ None;
  held : IsSome (g.S.Store.disk l.store).held;
  between : (first : Disk g.S.Store.Under) → (tail : List ℕ) → l.fn.sheets.length + length tail ≤ length (file_of (g.S.Store.disk l.fn.store)) → HoldsBetween first (image_of (page_at l.fn.sheets.changed) (file_of (g.S.Store.disk l.fn.store)) l.fn.sheets.length ++ tail) (g.S.Store.disk l.fn.store)
      → HoldsBetween first (image_of (page_at l.fn.sheets.changed) (file_of (g.S.Store.disk l.fn.store)) l.fn.sheets.length ++ tail) (g.S.Store.disk l.store);
  touched : Touches (λ range. (number : ℕ) × IsTrue (is_in (page_at l.fn.sheets.changed) number) × LiesIn number range) (g.S.Store.disk l.fn.store).touched (g.S.Store.disk l.store).touched;
  length : l.sheets.length ≡ l.fn.sheets.length;
  marked : l.sheets.marked ≡ None;
  spent : (g.S.Store.spare l.fn.store).writes + pages_before l.sheets.changed (pages_to l.end) ≤ (g.S.Store.spare l.store).writes + pages_before l.fn.sheets.changed (pages_to l.end);
  end : (g.S.Store.spare l.store).end ≡ (g.S.Store.spare l.fn.store).end;
  taken : g.S.Store.taken l.store ≡ g.S.Store.taken l.fn.store;
  write : g.S.Store.write_faults l.store ≡ g.S.Store.write_faults l.fn.store;
  read : g.S.Store.read_faults l.store ≡ g.S.Store.read_faults l.fn.store;
  over : WritesOver (g.S.Store.disk l.fn.store) (g.S.Store.disk l.store) (g.S.Store.unstored l.fn.store) (g.S.Store.unstored l.store);
  idle : l.end ≡ 0 → g.S.Store.unstored l.store ≡ g.S.Store.unstored l.fn.store;
  kept : (g.S.Store.unstored l.store).change ≡ false → (number : ℕ) → number * 65536 < l.end → page_at l.sheets.changed number ≡ None → page_at l.fn.sheets.changed number ≡ None;
  behind_last : (left : ℕ) → IsSome (page_at l.sheets.changed left) → left * 65536 < l.end → (number : ℕ) → l.end ≤ number * 65536 → page_at l.sheets.changed number ≡ None → page_at l.fn.sheets.changed number ≡ None;
}

abbrev pub decreases-loop-number : goal.decreases-loop-number
decreases-loop-number g l = pages_held l.sheets.changed
