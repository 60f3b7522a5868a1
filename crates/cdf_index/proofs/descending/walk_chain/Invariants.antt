use Rattle.cdf_index.proofs.Common.{Stays, index_at, ◌+◌, ◌≡◌}
use Rattle.cdf_index.proofs.GoingDown.{ChainAt}
use Rattle.cdf_index.proofs.descending.walk_chain.Given as goal

abbrev pub invariant-loop-turn : goal.invariant-loop-turn
invariant-loop-turn g l = record {
  chain : ChainAt (g.A.Area.image l.fn.area) l.first l.turn (index_at (g.A.Area.image l.fn.area) l.at) l.best l.here;
  area : Stays g.A.Area.image g.A.Area.frame g.A.Area.faults g.A.Area.edited l.fn.area l.area;
  steps : l.steps ≡ l.fn.steps + (l.turn + 1);
}
