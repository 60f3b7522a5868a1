use Rattle.cdf_cuts.proofs.Common.{Keeps, ◌-◌, ◌≤◌}
use Rattle.cdf_cuts.specs.Moving.{Moved}
use Rattle.cdf_cuts.proofs.moving.move_down.Given as goal

abbrev pub invariant-loop-done : goal.invariant-loop-done
invariant-loop-done g l = record {
  moved : Moved (g.A.Area.image l.fn.area) (g.A.Area.image l.area) l.fn.from l.fn.to l.done;
  within : l.done ≤ l.fn.n;
  area : Keeps g.A.Area.frame g.A.Area.faults l.fn.area l.area;
}

abbrev pub decreases-loop-done : goal.decreases-loop-done
decreases-loop-done g l = l.fn.n - l.done
