use Rattle.std.proofs.Common.{◌≡◌, ◌++◌, map, take, drop, length}
use Rattle.std.specs.List.{zip}
use Rattle.cdf_tap.specs.Meanings.{kinds_of, others_of, shown}
use Rattle.cdf_tap.proofs.showing.show.Given as goal

abbrev pub invariant-loop-i : goal.invariant-loop-i
invariant-loop-i g l =
    let before = map (λ b. (goal.Tap-dyn g (b.vtable, b.value)).meaning b.value) l.fn.taps.items in
    let now = map (λ b. (goal.Tap-dyn g (b.vtable, b.value)).meaning b.value) l.taps.items in
    let pairs = zip before l.fn.ended in
    record {
      shown : zip now l.ended ≡ shown l.name l.event (take l.i pairs) ++ drop l.i pairs;
      count : length l.taps.items ≡ length l.fn.taps.items;
      kinds : kinds_of now ≡ kinds_of before;
      others : others_of l.name now ≡ others_of l.name before;
    }
