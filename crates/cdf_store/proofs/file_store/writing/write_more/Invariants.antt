use Rattle.std.specs.Io.KnownBytes.{Keeps}
use Rattle.cdf_store.proofs.file_store.writing.write_more.Given as goal

abbrev pub invariant-loop : goal.invariant-loop
invariant-loop g l = Keeps (g.F.Write.contents l.fn.file) (g.F.Write.contents l.file)
