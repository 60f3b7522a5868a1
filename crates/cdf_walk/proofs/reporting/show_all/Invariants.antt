use Rattle.std.proofs.Common.{◌≡◌, ◌+◌, [], length, map, false, if◌then◌else◌}
use Rattle.std.specs.List.{zip}
use Rattle.cdf_model.specs.Events.{events_of}
use Rattle.cdf_model.specs.Spots.{rest}
use Rattle.cdf_tap.specs.Meanings.{kinds_of, others_of}
use Rattle.cdf_tap.specs.Reports.{after_all, begun}
use Rattle.cdf_walk.specs.Walks.{Stands}
use Rattle.cdf_walk.proofs.reporting.show_all.Given as goal

abbrev pub invariant-loop-going : goal.invariant-loop-going
invariant-loop-going g l =
    let d = g.P.Parts.told l.fn.parts in
    let before = map (λ b. (goal.Tap-dyn g (b.vtable, b.value)).meaning b.value) l.fn.taps.items in
    let now = map (λ b. (goal.Tap-dyn g (b.vtable, b.value)).meaning b.value) l.taps.items in
    record {
      told : g.P.Parts.told l.parts ≡ d;
      under : g.P.Parts.under l.parts ≡ g.P.Parts.under l.fn.parts;
      faults : g.P.Parts.faults l.parts ≡ g.P.Parts.faults l.fn.parts;
      stands : Stands d l.walk;
      flags : length l.ended.items ≡ length l.taps.items;
      same : after_all l.name (rest d l.walk.spot) (zip now l.ended.items) ≡ after_all l.name (events_of d) (begun l.name before);
      kinds : kinds_of now ≡ kinds_of before;
      others : others_of l.name now ≡ others_of l.name before;
      over : l.going ≡ false → rest d l.walk.spot ≡ [];
    }

abbrev pub decreases-loop-going : goal.decreases-loop-going
decreases-loop-going g l = length (rest (g.P.Parts.told l.fn.parts) l.walk.spot) + (if l.going then 1 else 0)
