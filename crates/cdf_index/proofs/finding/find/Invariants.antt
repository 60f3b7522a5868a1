use Rattle.cdf_index.proofs.Common.{At, Stays, index_at, nodes_passed, ◌+◌, ◌≡◌}
use Rattle.cdf_index.proofs.Searching.{Turns}
use Rattle.cdf_index.proofs.finding.find.Given as goal

abbrev pub invariant-loop-turn : goal.invariant-loop-turn
invariant-loop-turn g l = record {
  at : At (g.A.Area.image l.fn.area) l.rec l.turn (index_at (g.A.Area.image l.fn.area) l.head) l.at;
  turns : Turns (g.A.Area.image l.fn.area) l.turn l.at (index_at (g.A.Area.image l.fn.area) l.head) (nodes_passed l.rec (index_at (g.A.Area.image l.fn.area) l.head));
  area : Stays g.A.Area.image g.A.Area.frame g.A.Area.faults g.A.Area.edited l.fn.area l.area;
  steps : l.steps ≡ l.fn.steps + l.turn;
}
