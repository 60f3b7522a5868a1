use Rattle.std.proofs.Common.{◌≡◌, ◌+◌, ◌-◌, ◌≤◌, length, drop}
use Rattle.cdf_rle.specs.Stretches.{data_length}
use Rattle.cdf_rle.proofs.stretches.data_end.Given as goal

abbrev pub invariant-loop-end : goal.invariant-loop-end
invariant-loop-end l = record {
  after : l.from ≤ l.end;
  within : l.end ≤ length l.bytes;
  same : l.from + data_length (drop l.from l.bytes) ≡ l.end + data_length (drop l.end l.bytes);
}

abbrev pub decreases-loop-end : goal.decreases-loop-end
decreases-loop-end l = length l.bytes - l.end
