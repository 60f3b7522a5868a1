use Rattle.cdf_index.proofs.Common.{EntriesRead, Stays}
use Rattle.cdf_index.proofs.splitting.read_entries.Given as goal

abbrev pub invariant-loop-i : goal.invariant-loop-i
invariant-loop-i g l = record {
  read : EntriesRead (g.A.Area.image l.fn.area) l.at l.from l.i l.entries.items;
  area : Stays g.A.Area.image g.A.Area.frame g.A.Area.faults g.A.Area.edited l.fn.area l.area;
}
