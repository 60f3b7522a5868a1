use Rattle.cdf_check.proofs.Common.{Finding, Finds, Option, Stays, [], aedr_num, differ_rows, drop, map, number, same_number, take, ◌≡◌}
use Rattle.cdf_structure.specs.Met.{Agrees}
use Rattle.cdf_check.proofs.entries.check_apart.Given as goal

abbrev pub invariant-loop-entry : goal.invariant-loop-entry
invariant-loop-entry g l = record {
  area : Stays g.A.Area.image g.A.Area.frame g.A.Area.faults g.A.Area.edited l.fn.area l.area;
  agrees : Agrees l.numbers;
  numbers : l.numbers.list.items ≡ map (λ m. number (g.A.Area.image l.fn.area) m aedr_num) (take l.entry-index l.entries);
  goes : (found : Option Finding) → Finds (differ_rows 7 (same_number (g.A.Area.image l.fn.area)) (take l.entry-index l.entries) (drop l.entry-index l.entries)) found → Finds (differ_rows 7 (same_number (g.A.Area.image l.fn.area)) [] l.entries) found;
}
