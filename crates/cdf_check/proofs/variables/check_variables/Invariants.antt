use Rattle.cdf_check.proofs.Common.{AreNamed, Hold, Stays, [], cpr_at, flat_map, map, name_in, number, record_bytes, take, variable_rows, vdr_name, vdr_vxr_head, ◌≡◌}
use Rattle.cdf_check.proofs.variables.check_variables.Given as goal

abbrev pub invariant-loop-vdr : goal.invariant-loop-vdr
invariant-loop-vdr g l = record {
  area : Stays g.A.Area.image g.A.Area.frame g.A.Area.faults g.A.Area.edited l.fn.area l.area;
  rows : Hold (flat_map (variable_rows (g.A.Area.image l.fn.area) l.tiles []) (take l.vdr-index l.vdrs));
  named : AreNamed (λ vdr. name_in (g.A.Area.image l.fn.area) vdr vdr_name) (take l.vdr-index l.vdrs) l.names;
  cprs : l.cprs.items ≡ map (cpr_at (g.A.Area.image l.fn.area)) (take l.vdr-index l.vdrs);
  sizes : l.record_sizes.items ≡ map (record_bytes (g.A.Area.image l.fn.area)) (take l.vdr-index l.vdrs);
  heads : l.vxr_heads.items ≡ map (λ vdr. number (g.A.Area.image l.fn.area) vdr vdr_vxr_head) (take l.vdr-index l.vdrs);
}
