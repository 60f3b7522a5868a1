use Rattle.cdf_pages.proofs.Common.{AllServe, IsValid, TakesAtMost, cost_of_reading, drop, file_of, image_of, is_in, keys_of, length, nat_eq, page_at, pages_in, take, used_from, ◌%◌, ◌+◌, ◌-◌, ◌/◌, ◌<◌, ◌≡◌, ◌≤◌}
use Rattle.cdf_pages.proofs.reading.read_range.Given as goal

abbrev pub invariant-loop-done : goal.invariant-loop-done
invariant-loop-done g l = record {
  within : l.done ≤ length l.out;
  bytes : take l.done l.out ≡ take l.done (drop l.fn.place (image_of (page_at l.sheets.changed) (file_of (g.S.Store.disk l.fn.store)) l.sheets.length));
  len : length l.out ≡ length l.fn.out;
  serves : AllServe g.S.Store.lends (page_at l.sheets.changed) (file_of (g.S.Store.disk l.fn.store)) l.sheets.length l.clean.entries;
  aligned : 0 < l.done → l.done < length l.out → (l.fn.place + l.done) % 65536 ≡ 0;
  used : keys_of l.clean.entries ≡ used_from (is_in (page_at l.sheets.changed)) (l.fn.place / 65536) (pages_in l.fn.place l.done) (keys_of l.fn.clean.entries);
  taken : TakesAtMost (g.S.Store.taken l.fn.store) (g.S.Store.taken l.store) (cost_of_reading (is_in (page_at l.sheets.changed)) (keys_of l.fn.clean.entries) (length (file_of (g.S.Store.disk l.fn.store))) (l.fn.place / 65536) (pages_in l.fn.place l.done));
  valid : IsValid nat_eq l.clean;
  cap : l.clean.cap ≡ l.fn.clean.cap;
  disk : g.S.Store.disk l.store ≡ g.S.Store.disk l.fn.store;
  read : g.S.Store.read_faults l.store ≡ g.S.Store.read_faults l.fn.store;
  write : g.S.Store.write_faults l.store ≡ g.S.Store.write_faults l.fn.store;
  unstored : g.S.Store.unstored l.store ≡ g.S.Store.unstored l.fn.store;
}

abbrev pub decreases-loop-done : goal.decreases-loop-done
decreases-loop-done g l = length l.out - l.done
