use Rattle.cdf_structure.proofs.Common.{Agrees, Stays, chain, chain_on, field, length, ◌-◌, ◌≡◌}
use Rattle.cdf_structure.proofs.links.walk_chain.Given as goal

abbrev pub invariant-loop-turn : goal.invariant-loop-turn
invariant-loop-turn g l = record {
  area : Stays g.A.Area.image g.A.Area.frame g.A.Area.faults g.A.Area.edited l.fn.area l.area;
  agrees : Agrees l.met;
  goes : chain_on (length l.tiles - l.turn) (g.A.Area.image l.fn.area) l.tiles l.record_type l.met.list.items l.last l.link ≡ chain (g.A.Area.image l.fn.area) l.tiles l.record_type l.fn.holder (field l.fn.head 8);
}
