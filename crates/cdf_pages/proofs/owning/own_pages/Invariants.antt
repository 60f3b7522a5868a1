use Rattle.cdf_pages.proofs.Common.{Grown, List, None, Option, Owned, Some, TakesAtMost, cost_of_writing, file_of, get, is_in, keys_of, length, lookup, nat_cmp, nat_eq, page_at, removed, ℕ, ◌-◌, ◌<◌, ◌≡◌, ◌≤◌, ◌⊎◌}
use Rattle.cdf_pages.proofs.owning.own_pages.Given as goal

abbrev pub invariant-loop-number : goal.invariant-loop-number
invariant-loop-number g l = record {
  low : l.fn.from ≤ l.number;
  high : l.fn.from < l.number → l.number ≤ l.fn.upto;
  grown : Grown (file_of (g.S.Store.disk l.fn.store)) l.fn.sheets.length l.fn.sheets.marked (page_at l.fn.sheets.changed) (get nat_cmp l.fn.sheets.kept) (page_at l.sheets.changed) (get nat_cmp l.sheets.kept);
  owned : Owned l.sheets.marked (page_at l.sheets.changed) (get nat_cmp l.sheets.kept) l.fn.place l.fn.end l.fn.from l.number;
  others : (q : ℕ) → (q < l.fn.from) ⊎ (l.number ≤ q) → page_at l.sheets.changed q ≡ page_at l.fn.sheets.changed q;
  gone : l.clean.entries ≡ removed l.fn.from (l.number - l.fn.from) l.fn.clean.entries;
  out : (q : ℕ) → l.fn.from ≤ q → q < l.number → lookup (nat_eq q) l.clean.entries ≡ None;
  fewer : (q : ℕ) → (p : Option (List ℕ)) → lookup (nat_eq q) l.clean.entries ≡ Some p → lookup (nat_eq q) l.fn.clean.entries ≡ Some p;
  apart : (q : ℕ) → (p : Option (List ℕ)) → lookup (nat_eq q) l.clean.entries ≡ Some p → page_at l.sheets.changed q ≡ page_at l.fn.sheets.changed q;
  taken : TakesAtMost (g.S.Store.taken l.fn.store) (g.S.Store.taken l.store) (cost_of_writing (is_in (page_at l.fn.sheets.changed)) (keys_of l.fn.clean.entries) (length (file_of (g.S.Store.disk l.fn.store))) l.fn.from (l.number - l.fn.from));
  cap : l.clean.cap ≡ l.fn.clean.cap;
  length : l.sheets.length ≡ l.fn.sheets.length;
  marked : l.sheets.marked ≡ l.fn.sheets.marked;
  disk : g.S.Store.disk l.store ≡ g.S.Store.disk l.fn.store;
  read : g.S.Store.read_faults l.store ≡ g.S.Store.read_faults l.fn.store;
  write : g.S.Store.write_faults l.store ≡ g.S.Store.write_faults l.fn.store;
  unstored : g.S.Store.unstored l.store ≡ g.S.Store.unstored l.fn.store;
}

abbrev pub decreases-loop-number : goal.decreases-loop-number
decreases-loop-number g l = l.upto - l.number
