use Rattle.std.proofs.Common.{arith, bytes_eq}
use Rattle.cdf_names.proofs.Keys.{IsDistinct-map}
use Rattle.cdf_names.proofs.table.NameTable.new.Goals as goal

pub invariant_of-result : goal.invariant_of-result
invariant_of-result c = (IsDistinct-map bytes_eq (λ name. name.items) _ c.new.ensures.unique, omega arith)
