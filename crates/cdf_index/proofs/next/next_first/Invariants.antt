use Rattle.cdf_index.proofs.Common.{Stays, index_at}
use Rattle.cdf_index.proofs.Walking.{NextAt}
use Rattle.cdf_index.proofs.next.next_first.Given as goal

abbrev pub invariant-loop-turn : goal.invariant-loop-turn
invariant-loop-turn g l = record {
  next : NextAt (g.A.Area.image l.fn.area) l.rec (index_at (g.A.Area.image l.fn.area) l.head) l.turn l.fn.steps l.steps l.best l.at;
  area : Stays g.A.Area.image g.A.Area.frame g.A.Area.faults g.A.Area.edited l.fn.area l.area;
}
