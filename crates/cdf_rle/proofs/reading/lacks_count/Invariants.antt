use Rattle.std.proofs.Common.{◌≡◌, ◌≤◌, length, take}
use Rattle.std.specs.Prelude.{if◌then◌else◌, not}
use Rattle.cdf_model.specs.RunLengths.{is_cut}
use Rattle.cdf_rle.proofs.reading.lacks_count.Given as goal

abbrev pub invariant-loop-end : goal.invariant-loop-end
invariant-loop-end l = record {
  within : l.end ≤ length l.bytes;
  same : is_cut l.bytes ≡ (if l.is_odd then not (is_cut (take l.end l.bytes)) else is_cut (take l.end l.bytes));
}

abbrev pub decreases-loop-end : goal.decreases-loop-end
decreases-loop-end l = l.end
