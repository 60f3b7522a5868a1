use Rattle.std.proofs.Common.{◌-◌, ◌≤◌, take}
use Rattle.cdf_area.specs.Calls.{Stays}
use Rattle.md5.specs.Md5.{Holds}
use Rattle.cdf_seal.proofs.digest.digest_of.Given as goal

abbrev pub invariant-loop-place : goal.invariant-loop-place
invariant-loop-place g l = record {
  held : Holds l.hasher (take l.place (g.A.Area.image l.fn.area));
  within : l.place ≤ l.upto;
  area : Stays g.A.Area.image g.A.Area.frame g.A.Area.faults g.A.Area.edited l.fn.area l.area;
}

abbrev pub decreases-loop-place : goal.decreases-loop-place
decreases-loop-place g l = l.upto - l.place
