use Rattle.cdf_index.proofs.Common.{Keeps, NodeInside, ◌-◌, ◌≤◌}
use Rattle.cdf_index.proofs.Inserting.{Shifted}
use Rattle.cdf_index.proofs.entries.insert_entry.Given as goal

abbrev pub invariant-loop-moved : goal.invariant-loop-moved
invariant-loop-moved g l = record {
  shifted : Shifted (g.A.Area.image l.fn.area) (g.A.Area.image l.area) l.at l.used l.moved;
  inside : NodeInside (g.A.Area.image l.area) l.at;
  area : Keeps g.A.Area.frame g.A.Area.faults l.fn.area l.area;
  far : l.moved ≤ l.used - l.p;
}
