use Rattle.cdf_index.proofs.Common.{Stays, index_at, length, nodes_of, ◌≡◌}
use Rattle.cdf_trim.specs.WayToLast.{LeadsToLast, link_on}
use Rattle.cdf_trim.proofs.last_entry.find_end.Given as goal

abbrev pub invariant-loop-next : goal.invariant-loop-next
invariant-loop-next g l = record {
  leads : LeadsToLast (g.A.Area.image l.fn.area) (index_at (g.A.Area.image l.fn.area) l.start) l.at;
  next : l.next ≡ link_on (g.A.Area.image l.fn.area) l.at;
  area : Stays g.A.Area.image g.A.Area.frame g.A.Area.faults g.A.Area.edited l.fn.area l.area;
}

abbrev pub decreases-loop-next : goal.decreases-loop-next
decreases-loop-next g l = length (nodes_of (index_at (g.A.Area.image l.fn.area) l.at))
