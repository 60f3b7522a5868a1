use Rattle.cdf_attrs.proofs.Common.{AllLie, drop, map, with_writes, write_of, ◌≡◌}
use Rattle.cdf_area.specs.Calls.{Keeps}
use Rattle.cdf_attrs.proofs.numbering.set_numbers.Given as goal

abbrev pub invariant-loop-numbered : goal.invariant-loop-numbered
invariant-loop-numbered g l = record {
  lie : AllLie (g.A.Area.image l.area) (map write_of (drop l.numbered-index l.numbers));
  goes : with_writes (g.A.Area.image l.area) (map write_of (drop l.numbered-index l.numbers)) ≡ with_writes (g.A.Area.image l.fn.area) (map write_of l.numbers);
  area : Keeps g.A.Area.frame g.A.Area.faults l.fn.area l.area;
}
