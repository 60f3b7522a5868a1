use Rattle.std.proofs.Common.{◌≡◌, ◌++◌, map, take, drop, length}
use Rattle.cdf_tap.specs.Meanings.{cleared_named}
use Rattle.cdf_tap.proofs.list.clear_named.Given as goal

abbrev pub invariant-loop-i : goal.invariant-loop-i
invariant-loop-i g l =
    let before = map (λ b. (goal.Tap-dyn g (b.vtable, b.value)).meaning b.value) l.fn.taps.items in
    record {
      cleared : map (λ b. (goal.Tap-dyn g (b.vtable, b.value)).meaning b.value) l.taps.items ≡ cleared_named l.name (take l.i before) ++ drop l.i before;
      count : length l.taps.items ≡ length l.fn.taps.items;
    }
