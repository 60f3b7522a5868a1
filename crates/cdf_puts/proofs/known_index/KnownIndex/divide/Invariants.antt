use Rattle.cdf_area.specs.Calls.{Stays}
use Rattle.cdf_puts.proofs.Common.{InTopChain, IsRightOf, index_at, ◌-◌, ◌≤◌}
use Rattle.cdf_puts.proofs.known_index.KnownIndex.divide.Given as goal

abbrev pub invariant-loop-at : goal.invariant-loop-at
invariant-loop-at g l = record {
  known : IsRightOf (index_at (g.A.Area.image l.fn.area) l.head) l.self;
  top : InTopChain (index_at (g.A.Area.image l.fn.area) l.head) l.at.node;
  upto : l.at.rec ≤ l.rec;
  area : Stays g.A.Area.image g.A.Area.frame g.A.Area.faults g.A.Area.edited l.fn.area l.area;
}

abbrev pub decreases-loop-at : goal.decreases-loop-at
decreases-loop-at g l = l.rec - l.at.rec
