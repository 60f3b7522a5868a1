use Rattle.std.proofs.Common.{◌≡◌, map, take}
use Rattle.std.specs.Io.KnownBytes.{Appends}
use Rattle.cdf_tap.specs.Meanings.{texts_of}
use Rattle.cdf_walk.proofs.reporting.write_texts.Given as goal

abbrev pub invariant-loop-tap : goal.invariant-loop-tap
invariant-loop-tap g l = record {
  wrote : Appends (g.O.Sink.written l.fn.out) (g.O.Sink.written l.out) (texts_of l.name (map (λ b. (goal.Tap-dyn g (b.vtable, b.value)).meaning b.value) (take l.tap-index l.taps)));
  faults : g.O.Sink.faults l.out ≡ g.O.Sink.faults l.fn.out;
}
