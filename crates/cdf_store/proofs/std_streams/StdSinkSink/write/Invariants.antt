use Rattle.std.proofs.Common.{◌≡◌}
use Rattle.std.specs.Io.KnownBytes.{Keeps}
use Rattle.cdf_store.proofs.std_streams.StdSinkSink.write.Given as goal

abbrev pub invariant-loop : goal.invariant-loop
invariant-loop g l = record {
  written : Keeps (g.W.Write.contents l.fn.self.inner) (g.W.Write.contents l.self.inner);
  faults : l.self.faults ≡ l.fn.self.faults;
}
