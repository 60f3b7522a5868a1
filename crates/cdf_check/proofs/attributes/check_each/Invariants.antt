use Rattle.cdf_check.proofs.Common.{AreNamed, Hold, Stays, adr_name, attribute_records, attribute_rows, attribute_shape, flat_map, map, name_in, take, ◌≡◌}
use Rattle.cdf_check.proofs.attributes.check_each.Given as goal

abbrev pub invariant-loop-adr : goal.invariant-loop-adr
invariant-loop-adr g l = record {
  area : Stays g.A.Area.image g.A.Area.frame g.A.Area.faults g.A.Area.edited l.fn.area l.area;
  rows : Hold (flat_map (attribute_rows (g.A.Area.image l.fn.area) l.tiles) (take l.adr-index l.adrs));
  owned : l.owned.items ≡ flat_map attribute_records (map (attribute_shape (g.A.Area.image l.fn.area) l.tiles) (take l.adr-index l.adrs));
  named : AreNamed (λ adr. name_in (g.A.Area.image l.fn.area) adr adr_name) (take l.adr-index l.adrs) l.names;
}
