use Rattle.cdf_vars.proofs.Common.{Stays, drop, fold, max, ◌^◌, ◌≡◌, ◌≤◌}
use Rattle.cdf_vars.proofs.RemovalAnswers.{extents}
use Rattle.cdf_vars.proofs.removing.greatest_extent.Given as goal

abbrev pub invariant-loop-place : goal.invariant-loop-place
invariant-loop-place g l =
    let b = g.A.Area.image l.fn.area in
    record {
      few : l.greatest ≤ 2 ^ 31;
      goes : fold max l.greatest (extents b (drop l.place-index l.places)) ≡ fold max l.fn.least (extents b l.places);
      area : Stays g.A.Area.image g.A.Area.frame g.A.Area.faults g.A.Area.edited l.fn.area l.area;
    }
