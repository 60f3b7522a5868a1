use Rattle.cdf_leaves.proofs.Common.{Stays}
use Rattle.cdf_leaves.proofs.TopChain.{Following}
use Rattle.cdf_leaves.proofs.tail.last_of_chain.Given as goal

abbrev pub invariant-loop-turn : goal.invariant-loop-turn
invariant-loop-turn g l = record {
  following : Following (g.A.Area.image l.fn.area) l.at l.turn l.here;
  area : Stays g.A.Area.image g.A.Area.frame g.A.Area.faults g.A.Area.edited l.fn.area l.area;
}
