use Rattle.cdf_attrs.proofs.Common.{DropsUpTo, Found, Good, KeepsAttributes, ◌≡◌}
use Rattle.cdf_area.specs.Calls.{Keeps}
use Rattle.cdf_attrs.proofs.attrs.Attrs.drop_var.Given as goal

abbrev pub invariant-loop-adr : goal.invariant-loop-adr
invariant-loop-adr g l = record {
  good : Good (g.A.Area.image l.area);
  keeps : KeepsAttributes (g.A.Area.image l.fn.area) (g.A.Area.image l.area);
  dropped : (found : Found) → found.kind ≡ l.kind → found.number ≡ l.num → DropsUpTo (g.A.Area.image l.fn.area) found l.adr-index (g.A.Area.image l.area);
  area : Keeps g.A.Area.frame g.A.Area.faults l.fn.area l.area;
}
