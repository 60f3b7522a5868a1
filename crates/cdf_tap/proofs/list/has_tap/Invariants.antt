use Rattle.std.proofs.Common.{◌≡◌, false, map, take}
use Rattle.cdf_model.specs.Taps.{has_tap}
use Rattle.cdf_tap.specs.Meanings.{kinds_of}
use Rattle.cdf_tap.proofs.list.has_tap.Given as goal

abbrev pub invariant-loop-tap : goal.invariant-loop-tap
invariant-loop-tap g l = has_tap (kinds_of (map (λ b. (goal.Tap-dyn g (b.vtable, b.value)).meaning b.value) (take l.tap-index l.taps))) l.name ≡ false
