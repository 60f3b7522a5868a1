use Rattle.cdf_pages.proofs.Common.{HoldsGrown, IsTrue, LiesIn, List, Touches, file_of, image_of, is_in, length, max, page_at, pages_in, ℕ, ◌++◌, ◌+◌, ◌-◌, ◌≡◌, ◌≤◌}
use Rattle.cdf_pages.proofs.growth.grow_pages.Given as goal

abbrev pub invariant-loop-place : goal.invariant-loop-place
invariant-loop-place g l = record {
  long : length (file_of (g.S.Store.disk l.store)) ≡ l.place;
  low : l.file_size ≤ l.place;
  high : l.place ≤ max l.file_size l.sheets.length;
  grown : (tail : List ℕ) → HoldsGrown (g.S.Store.disk l.fn.store) (image_of (page_at l.sheets.changed) (file_of (g.S.Store.disk l.fn.store)) l.sheets.length ++ tail) (g.S.Store.disk l.store);
  touched : Touches (λ range. (number : ℕ) × IsTrue (is_in (page_at l.sheets.changed) number) × LiesIn number range) (g.S.Store.disk l.fn.store).touched (g.S.Store.disk l.store).touched;
  spent : (g.S.Store.spare l.fn.store).writes + pages_in l.place (l.sheets.length - l.place) ≤ (g.S.Store.spare l.store).writes + pages_in l.file_size (l.sheets.length - l.file_size);
  end : (g.S.Store.spare l.store).end ≡ (g.S.Store.spare l.fn.store).end;
  taken : g.S.Store.taken l.store ≡ g.S.Store.taken l.fn.store;
  write : g.S.Store.write_faults l.store ≡ g.S.Store.write_faults l.fn.store;
  read : g.S.Store.read_faults l.store ≡ g.S.Store.read_faults l.fn.store;
  change : (g.S.Store.unstored l.store).change ≡ (g.S.Store.unstored l.fn.store).change;
  idle : l.sheets.length ≤ l.file_size → g.S.Store.unstored l.store ≡ g.S.Store.unstored l.fn.store;
}

abbrev pub decreases-loop-place : goal.decreases-loop-place
decreases-loop-place g l = l.sheets.length - l.place
