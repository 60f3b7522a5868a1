use Rattle.cdf_structure.proofs.Common.{Finding, Finds, Option, Stays, drop, field, number_rows}
use Rattle.cdf_structure.proofs.chains.check_numbers.Given as goal

abbrev pub invariant-loop-i : goal.invariant-loop-i
invariant-loop-i g l = record {
  area : Stays g.A.Area.image g.A.Area.frame g.A.Area.faults g.A.Area.edited l.fn.area l.area;
  goes : (found : Option Finding) → Finds (number_rows l.rule (g.A.Area.image l.fn.area) (field l.number 4) l.i (drop l.i l.members)) found → Finds (number_rows l.rule (g.A.Area.image l.fn.area) (field l.number 4) 0 l.members) found;
}
