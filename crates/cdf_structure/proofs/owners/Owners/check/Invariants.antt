use Rattle.cdf_structure.proofs.Common.{Hold, List, Marks, None, flat_map, owner_rows, take, ℕ}
use Rattle.cdf_structure.proofs.owners.Owners.check.Given as goal

abbrev pub invariant-loop-i : goal.invariant-loop-i
invariant-loop-i l = (owned : List ℕ) → Marks l.tiles owned l.self.has_owner.items None → Hold (flat_map (owner_rows owned) (take l.i l.tiles))
