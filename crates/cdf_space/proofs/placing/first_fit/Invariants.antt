use Rattle.cdf_space.proofs.Common.{Stays, shape}
use Rattle.cdf_space.proofs.FirstFit.{IsOnTheList}
use Rattle.cdf_space.proofs.placing.first_fit.Given as goal

abbrev pub invariant-loop : goal.invariant-loop
invariant-loop g l = record {
  walked : IsOnTheList (g.A.Area.image l.fn.area) (shape (g.A.Area.image l.fn.area)) l.fn.need l.link l.before l.place l.counter;
  area : Stays g.A.Area.image g.A.Area.frame g.A.Area.faults g.A.Area.edited l.fn.area l.area;
}
