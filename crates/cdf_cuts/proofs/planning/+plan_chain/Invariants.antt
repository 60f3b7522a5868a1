use Rattle.cdf_cuts.proofs.Common.{Stays}
use Rattle.cdf_cuts.proofs.PlanWalk.{Planning, PlanningNode}
use Rattle.cdf_cuts.proofs.planning.+plan_chain.Given as goal

abbrev pub decreases-plan_chain : goal.decreases-plan_chain
decreases-plan_chain g l = l.levels

abbrev pub invariant-loop-turn : goal.invariant-loop-turn
invariant-loop-turn g l = record {
  planning : Planning (g.A.Area.image l.fn.area) l.fn.levels l.fn.link l.at l.turn l.fn.span l.fn.plan l.plan l.left;
  area : Stays g.A.Area.image g.A.Area.frame g.A.Area.faults g.A.Area.edited l.fn.area l.area;
}

abbrev pub invariant-loop-i : goal.invariant-loop-i
invariant-loop-i g l = record {
  node : PlanningNode (g.A.Area.image l.fn.area) l.fn.levels l.fn.link l.at l.i l.turn l.fn.span l.fn.plan l.plan l.left l.kept.items;
  area : Stays g.A.Area.image g.A.Area.frame g.A.Area.faults g.A.Area.edited l.fn.area l.area;
}
