use Rattle.cdf_pages.proofs.Common.{Backed, Differs, IfSome, IsTrue, None, TakesAtMost, [], cost_of_writing, file_of, image_of, is_in, length, not, page_at, pages_in, ℕ, ◌≡◌, ◌⊎◌}
use Rattle.std.proofs.Common.{IsSome}
use Rattle.cdf_pages.proofs.Settled.{Remains, compared_upto, numbers_left}
use Rattle.cdf_pages.proofs.settling.settle_all.Given as goal

abbrev pub invariant-loop-next : goal.invariant-loop-next
invariant-loop-next g l = record {
  image : image_of (page_at l.sheets.changed) (file_of (g.S.Store.disk l.fn.store)) l.fn.sheets.length ≡ image_of (page_at l.fn.sheets.changed) (file_of (g.S.Store.disk l.fn.store)) l.fn.sheets.length;
  backed : Backed (page_at l.sheets.changed) (length (file_of (g.S.Store.disk l.fn.store))) l.fn.sheets.length;
  less : (number : ℕ) → page_at l.fn.sheets.changed number ≡ None → page_at l.sheets.changed number ≡ None;
  there : IfSome l.next (λ number. IsSome (page_at l.sheets.changed number));
  differs : (number : ℕ) → IsTrue (is_in (page_at l.sheets.changed) number) → Remains l.next number ⊎ Differs (file_of (g.S.Store.disk l.fn.store)) (image_of (page_at l.fn.sheets.changed) (file_of (g.S.Store.disk l.fn.store)) l.fn.sheets.length) number;
  buffer : length l.buffer ≡ 65536;
  marked : l.sheets.marked ≡ None;
  disk : g.S.Store.disk l.store ≡ g.S.Store.disk l.fn.store;
  taken : TakesAtMost (g.S.Store.taken l.fn.store) (g.S.Store.taken l.store) (cost_of_writing (λ number. not (is_in (page_at l.fn.sheets.changed) number)) [] (length (file_of (g.S.Store.disk l.fn.store))) 0 (compared_upto l.next (pages_in 0 l.fn.sheets.length)));
  read : g.S.Store.read_faults l.store ≡ g.S.Store.read_faults l.fn.store;
  write : g.S.Store.write_faults l.store ≡ g.S.Store.write_faults l.fn.store;
  unstored : g.S.Store.unstored l.store ≡ g.S.Store.unstored l.fn.store;
  length : l.sheets.length ≡ l.fn.sheets.length;
}

abbrev pub decreases-loop-next : goal.decreases-loop-next
decreases-loop-next g l = numbers_left l.next
