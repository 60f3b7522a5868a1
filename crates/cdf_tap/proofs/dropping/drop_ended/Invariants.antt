use Rattle.std.proofs.Common.{◌≡◌, ◌≤◌, map, length}
use Rattle.cdf_tap.proofs.Dropped.{left_from}
use Rattle.cdf_tap.proofs.dropping.drop_ended.Given as goal

abbrev pub invariant-loop-i : goal.invariant-loop-i
invariant-loop-i g l = record {
  left : map (λ b. (goal.Tap-dyn g (b.vtable, b.value)).meaning b.value) l.taps.items ≡ left_from l.i (map (λ b. (goal.Tap-dyn g (b.vtable, b.value)).meaning b.value) l.fn.taps.items) l.ended;
  within : l.i ≤ length l.fn.taps.items;
}

abbrev pub decreases-loop-i : goal.decreases-loop-i
decreases-loop-i g l = l.i
