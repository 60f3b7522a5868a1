-- The attached file of a store in memory gets other bytes.
use Rattle.std.proofs.Common.{◌≡◌, ℕ, get_or, Some, refl}
use Rattle.std.proofs.Math.ListN.{set}
use Rattle.std.specs.declared.alloc.Global.{Global}
use Rattle.std.specs.declared.vec.Vec.{Vec}
use Rattle.cdf_store.specs.declared.mem_files.MemFile.{MemFile}
use Rattle.cdf_store.specs.declared.mem_files.MemFiles.{MemFiles}
use Rattle.cdf_store.proofs.Files.{Renewed, renewed}

pub changed : (s : MemFiles) (i : ℕ) (before : MemFile) (bytes : Vec ℕ Global) → s.attached ≡ Some i → before ≡ get_or s.list.items i before
    → Renewed s.list.items (set s.list.items i (record { name = before.name; bytes = bytes })) s.attached before (record { name = before.name; bytes = bytes })
changed s i before bytes some is = renewed s.list.items s.attached i before (record { name = before.name; bytes = bytes }) s.distinct some (s.in_range i some) is refl
