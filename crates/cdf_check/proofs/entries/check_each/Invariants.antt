use Rattle.cdf_check.proofs.Common.{Hold, Stays, entry_rows, flat_map, take}
use Rattle.cdf_check.proofs.entries.check_each.Given as goal

abbrev pub invariant-loop-entry : goal.invariant-loop-entry
invariant-loop-entry g l = record {
  area : Stays g.A.Area.image g.A.Area.frame g.A.Area.faults g.A.Area.edited l.fn.area l.area;
  rows : Hold (flat_map (entry_rows (g.A.Area.image l.fn.area) l.adr) (take l.entry-index l.entries));
}
