use Rattle.cdf_index.proofs.Common.{Stays, index_at}
use Rattle.cdf_index.proofs.LevelsDown.{Descending}
use Rattle.cdf_index.proofs.descending.way_down.Given as goal

abbrev pub invariant-loop-turn : goal.invariant-loop-turn
invariant-loop-turn g l = record {
  descending : Descending (g.A.Area.image l.fn.area) l.first l.turn (index_at (g.A.Area.image l.fn.area) l.head) l.passed.items l.end;
  area : Stays g.A.Area.image g.A.Area.frame g.A.Area.faults g.A.Area.edited l.fn.area l.area;
}
