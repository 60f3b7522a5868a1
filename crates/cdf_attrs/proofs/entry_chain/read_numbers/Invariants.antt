use Rattle.cdf_attrs.proofs.Common.{Stays, take, ◌≡◌}
use Rattle.cdf_attrs.proofs.EntriesRead.{numbers_at}
use Rattle.cdf_attrs.proofs.entry_chain.read_numbers.Given as goal

abbrev pub invariant-loop-place : goal.invariant-loop-place
invariant-loop-place g l = record {
  read : l.numbers.items ≡ numbers_at (g.A.Area.image l.fn.area) (take l.place-index l.places);
  area : Stays g.A.Area.image g.A.Area.frame g.A.Area.faults g.A.Area.edited l.fn.area l.area;
}
