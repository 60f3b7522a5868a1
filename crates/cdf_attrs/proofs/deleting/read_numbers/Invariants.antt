use Rattle.cdf_attrs.proofs.Common.{Stays, drop, map, numbers_from, shape, write_of, ◌++◌, ◌+◌, ◌-◌, ◌≡◌}
use Rattle.cdf_attrs.proofs.deleting.read_numbers.Given as goal

abbrev pub invariant-loop-i : goal.invariant-loop-i
invariant-loop-i g l = record {
  read : map write_of l.numbers.items ++ numbers_from (l.i - 1) (drop l.i (shape (g.A.Area.image l.fn.area)).attributes) ≡ numbers_from l.number (drop (l.number + 1) (shape (g.A.Area.image l.fn.area)).attributes);
  area : Stays g.A.Area.image g.A.Area.frame g.A.Area.faults g.A.Area.edited l.fn.area l.area;
}
