use Rattle.std.proofs.Common.{◌≡◌, ◌+◌, ◌-◌, ◌*◌, ◌≤◌, ◌++◌, length}
use Rattle.cdf_area.specs.Calls.{Stays}
use Rattle.cdf_format.specs.Fields.{words}
use Rattle.cdf_records.proofs.numbers.read_nums.Given as goal

abbrev pub invariant-loop : goal.invariant-loop
invariant-loop g l = record {
  value : l.numbers.items ++ words (g.A.Area.image l.fn.area) l.place (l.n - l.counter) ≡ words (g.A.Area.image l.fn.area) l.at l.n;
  room : l.place + 4 * (l.n - l.counter) ≤ length (g.A.Area.image l.fn.area);
  area : Stays g.A.Area.image g.A.Area.frame g.A.Area.faults g.A.Area.edited l.fn.area l.area;
}
