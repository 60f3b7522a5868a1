use Rattle.std.proofs.Common.{drop, ◌≡◌, ◌≤◌}
use Rattle.cdf_mem_disk.specs.Events.{kept_end}
use Rattle.cdf_mem_disk.proofs.history.History.kept_end.Given as goal

abbrev pub invariant-loop-at : goal.invariant-loop-at
invariant-loop-at l = record {
  end : kept_end l.keep l.at l.kept.end l.kept.left (drop l.at l.self)
      ≡ kept_end l.keep 0 0 l.keep l.self;
  within : l.kept.end ≤ l.at;
}
