use Rattle.cdf_space.proofs.Common.{Stays}
use Rattle.cdf_space.proofs.ChainRead.{OnChain}
use Rattle.cdf_space.proofs.chains.read_chain.Given as goal

abbrev pub invariant-loop : goal.invariant-loop
invariant-loop g l = record {
  way : OnChain (g.A.Area.image l.fn.area) l.fn.chain l.link l.counter l.places.items;
  area : Stays g.A.Area.image g.A.Area.frame g.A.Area.faults g.A.Area.edited l.fn.area l.area;
}
