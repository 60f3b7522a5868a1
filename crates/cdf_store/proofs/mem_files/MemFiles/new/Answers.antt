use Rattle.std.proofs.Common.{refl}
use Rattle.std.specs.List.{IsDistinct}
use Rattle.cdf_store.proofs.mem_files.MemFiles.new.Goals as goal

pub invariant_of-result : goal.invariant_of-result
unfolding IsDistinct
invariant_of-result c = record { in_range = λ x e. cc; distinct = rw c.new.ensures.items tt; listed = refl }
