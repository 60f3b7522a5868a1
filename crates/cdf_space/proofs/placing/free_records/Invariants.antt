use Rattle.cdf_space.proofs.Common.{AllGiven, AreFree, IsSound, Keeps, List, content, drop, shape, ℕ, ◌≡◌}
use Rattle.cdf_space.proofs.placing.free_records.Given as goal

abbrev pub invariant-loop-place : goal.invariant-loop-place
invariant-loop-place g l = record {
  sound : IsSound (g.A.Area.image l.area) (shape (g.A.Area.image l.area));
  content_stays : content (g.A.Area.image l.area) ≡ content (g.A.Area.image l.fn.area);
  free : AreFree (g.A.Area.image l.area) (drop l.place-index l.places);
  goes : (now : List ℕ) → AllGiven (g.A.Area.image l.area) now (drop l.place-index l.places) → AllGiven (g.A.Area.image l.fn.area) now l.places;
  area : Keeps g.A.Area.frame g.A.Area.faults l.fn.area l.area;
}
