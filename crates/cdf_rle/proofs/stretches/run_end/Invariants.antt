use Rattle.std.proofs.Common.{◌≡◌, ◌+◌, ◌-◌, ◌≤◌, drop}
use Rattle.cdf_rle.specs.Stretches.{zero_length}
use Rattle.cdf_rle.proofs.stretches.run_end.Given as goal

abbrev pub invariant-loop-end : goal.invariant-loop-end
invariant-loop-end l = record {
  after : l.from ≤ l.end;
  within : l.end ≤ l.limit;
  same : l.from + zero_length (drop l.from l.bytes) ≡ l.end + zero_length (drop l.end l.bytes);
}

abbrev pub decreases-loop-end : goal.decreases-loop-end
decreases-loop-end l = l.limit - l.end
