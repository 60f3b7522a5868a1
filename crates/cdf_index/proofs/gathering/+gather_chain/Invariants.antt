use Rattle.cdf_index.proofs.Common.{Stays}
use Rattle.cdf_index.proofs.ChainWalk.{Walked, Gone}
use Rattle.cdf_index.proofs.gathering.+gather_chain.Given as goal

abbrev pub decreases-gather_chain : goal.decreases-gather_chain
decreases-gather_chain g l = l.levels

abbrev pub invariant-loop-turn : goal.invariant-loop-turn
invariant-loop-turn g l = record {
  walked : Walked g.G.Gather.has (g.A.Area.image l.fn.area) l.fn.levels l.fn.link l.at l.turn l.fn.gathered l.gathered;
  area : Stays g.A.Area.image g.A.Area.frame g.A.Area.faults g.A.Area.edited l.fn.area l.area;
}

abbrev pub invariant-loop-i : goal.invariant-loop-i
invariant-loop-i g l = record {
  gone : Gone g.G.Gather.has (g.A.Area.image l.fn.area) l.fn.levels l.fn.link l.at l.i l.turn l.fn.gathered l.gathered;
  area : Stays g.A.Area.image g.A.Area.frame g.A.Area.faults g.A.Area.edited l.fn.area l.area;
}
