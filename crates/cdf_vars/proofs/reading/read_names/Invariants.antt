use Rattle.cdf_vars.proofs.Common.{Stays, map, name_at, take, ◌≡◌}
use Rattle.cdf_vars.proofs.reading.read_names.Given as goal

abbrev pub invariant-loop-place : goal.invariant-loop-place
invariant-loop-place g l = record {
  named : l.names ≡ map (name_at (g.A.Area.image l.fn.area)) (take l.place-index l.places);
  area : Stays g.A.Area.image g.A.Area.frame g.A.Area.faults g.A.Area.edited l.fn.area l.area;
}
