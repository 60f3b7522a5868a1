use Rattle.cdf_structure.proofs.Common.{Hold, IsFor, IsToldOf, Stays, flat_map, index_of, map, met_rows, take, variable_records, variable_shape}
use Rattle.cdf_structure.specs.Known.{KnowsIndexes}
use Rattle.cdf_structure.proofs.indexes.check_indexes.Given as goal

abbrev pub invariant-loop-i : goal.invariant-loop-i
invariant-loop-i g l = record {
  area : Stays g.A.Area.image g.A.Area.frame g.A.Area.faults g.A.Area.edited l.fn.area l.area;
  rows : Hold (flat_map (λ vdr. met_rows (g.A.Area.image l.fn.area) l.tiles vdr (index_of (g.A.Area.image l.fn.area) l.tiles vdr)) (take l.i l.vdrs));
  known : KnowsIndexes (g.A.Area.image l.fn.area) l.tiles l.known;
  marks : IsFor l.tiles l.owners;
  told : IsToldOf l.tiles (flat_map variable_records (map (variable_shape (g.A.Area.image l.fn.area) l.tiles) (take l.i l.vdrs))) l.fn.owners l.owners;
}
