use Rattle.cdf_attrs.proofs.Common.{Stays, adr_name, names_at, take, ◌≡◌}
use Rattle.cdf_attrs.proofs.reading.read_names.Given as goal

abbrev pub invariant-loop-place : goal.invariant-loop-place
invariant-loop-place g l = record {
  named : l.names ≡ names_at (g.A.Area.image l.fn.area) adr_name (take l.place-index l.places);
  area : Stays g.A.Area.image g.A.Area.frame g.A.Area.faults g.A.Area.edited l.fn.area l.area;
}
