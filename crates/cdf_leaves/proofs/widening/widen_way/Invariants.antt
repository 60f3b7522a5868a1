use Rattle.cdf_leaves.proofs.Along.{Widening}
use Rattle.cdf_leaves.proofs.Common.{Keeps}
use Rattle.cdf_leaves.proofs.widening.widen_way.Given as goal

abbrev pub invariant-loop-turn : goal.invariant-loop-turn
invariant-loop-turn g l = record {
  along : Widening (g.A.Area.image l.fn.area) (g.A.Area.image l.area) l.last l.steps l.turn;
  area : Keeps g.A.Area.frame g.A.Area.faults l.fn.area l.area;
}
