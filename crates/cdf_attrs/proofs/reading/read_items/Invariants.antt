use Rattle.cdf_attrs.proofs.Common.{Stays, attribute_items, attribute_of, content, drop, map, shape, ◌++◌, ◌≡◌}
use Rattle.cdf_attrs.proofs.reading.read_items.Given as goal

abbrev pub invariant-loop-number : goal.invariant-loop-number
invariant-loop-number g l =
    let b = g.A.Area.image l.fn.area in
    record {
      listed : l.items.items ++ attribute_items l.number (map (attribute_of b) (drop l.number (shape b).attributes)) ≡ attribute_items 0 (content b).attributes;
      area : Stays g.A.Area.image g.A.Area.frame g.A.Area.faults g.A.Area.edited l.fn.area l.area;
    }
