use Rattle.cdf_pages.proofs.Common.{TakesAtMost, drop, file_of, length, take, ◌-◌, ◌≡◌, ◌≤◌}
use Rattle.cdf_pages.proofs.reading.fill.Given as goal

abbrev pub invariant-loop-done : goal.invariant-loop-done
invariant-loop-done g l = record {
  bytes : take l.done l.out ≡ take l.done (drop l.fn.place (file_of (g.S.Store.disk l.fn.store)));
  within : l.done ≤ l.fn.live;
  size : length l.out ≡ length l.fn.out;
  disk : g.S.Store.disk l.store ≡ g.S.Store.disk l.fn.store;
  read : g.S.Store.read_faults l.store ≡ g.S.Store.read_faults l.fn.store;
  write : g.S.Store.write_faults l.store ≡ g.S.Store.write_faults l.fn.store;
  unstored : g.S.Store.unstored l.store ≡ g.S.Store.unstored l.fn.store;
  taken : TakesAtMost (g.S.Store.taken l.fn.store) (g.S.Store.taken l.store) l.done;
}

abbrev pub decreases-loop-done : goal.decreases-loop-done
decreases-loop-done g l = l.live - l.done
