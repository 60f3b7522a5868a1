use Rattle.cdf_space.proofs.Common.{Stays, length, shape, ◌-◌}
use Rattle.cdf_space.proofs.Counting.{AreListed}
use Rattle.cdf_space.proofs.measuring.tally_listed.Given as goal

abbrev pub invariant-loop-place : goal.invariant-loop-place
invariant-loop-place g l = record {
  left : AreListed (g.A.Area.image l.fn.area) (shape (g.A.Area.image l.fn.area)) l.place l.listed.count l.listed.bytes;
  area : Stays g.A.Area.image g.A.Area.frame g.A.Area.faults g.A.Area.edited l.fn.area l.area;
}

abbrev pub decreases-loop-place : goal.decreases-loop-place
decreases-loop-place g l = length (shape (g.A.Area.image l.fn.area)).unused - l.listed.count
