use Rattle.cdf_vars.proofs.Common.{Stays, items_at, ◌++◌}
use Rattle.cdf_vars.proofs.NamesRead.{Listed}
use Rattle.cdf_vars.proofs.reading.push_items_at.Given as goal

abbrev pub invariant-loop-number : goal.invariant-loop-number
invariant-loop-number g l =
    let b = g.A.Area.image l.fn.area in
    record {
      listed : Listed b l.kind l.places (l.fn.items.items ++ items_at b l.kind 0 l.places) l.items.items l.number;
      area : Stays g.A.Area.image g.A.Area.frame g.A.Area.faults g.A.Area.edited l.fn.area l.area;
    }
