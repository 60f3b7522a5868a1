use Rattle.std.proofs.Common.{◌≡◌, drop}
use Rattle.cdf_store.specs.Named.{lookup}
use Rattle.cdf_store.specs.MemFile.{entries}
use Rattle.cdf_store.proofs.mem_files.place_of.Given as goal

abbrev pub invariant-loop-i : goal.invariant-loop-i
invariant-loop-i l = lookup l.name (entries (drop l.i l.files)) ≡ lookup l.name (entries l.files)
