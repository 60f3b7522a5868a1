use Rattle.cdf_vars.proofs.Common.{VdrsLie, drop, numbers_on, with_writes, ◌+◌, ◌≡◌}
use Rattle.cdf_area.specs.Calls.{Keeps}
use Rattle.cdf_vars.proofs.removing.set_numbers.Given as goal

abbrev pub invariant-loop-i : goal.invariant-loop-i
invariant-loop-i g l = record {
  lie : VdrsLie (g.A.Area.image l.area) l.places;
  goes : with_writes (g.A.Area.image l.area) (numbers_on (l.first + l.i) (drop l.i l.places)) ≡ with_writes (g.A.Area.image l.fn.area) (numbers_on l.first l.places);
  area : Keeps g.A.Area.frame g.A.Area.faults l.fn.area l.area;
}
