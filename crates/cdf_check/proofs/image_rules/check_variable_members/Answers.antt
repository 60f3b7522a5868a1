use Rattle.cdf_check.proofs.Common.{AreDescribed, Err, Finds, None, Ok, Some, Yields, ap, arith, cpr_at, flat_map, length, length-map, map, phase7, phase8, phase9, refl, tiling_sound, unread_variables, variable_records, variable_shape, ◌++◌, ◌∙◌, ◌∷◌}
use Rattle.cdf_structure.specs.Owners.{IsToldOf}
use Rattle.cdf_structure.proofs.Searches.{tiles_climb}
use Rattle.cdf_check.proofs.ImageSteps.{sizes_lie, variables, variables_once, variables_few, variables_break, indexes_break, read_breaks, owners_break, all_held}
use Rattle.cdf_check.proofs.image_rules.check_variable_members.Goals as goal

pub check_variables-requires : goal.check_variables-requires
check_variables-requires g c =
    let b = g.A.Area.image c.args.area.now in
    let ts = c.args.tiles.now in
    let q = c.requires in
    let chains = c.args.chains.now in
    rw (c.deref-3.ensures.value, c.in_ok-vdrs.ensures, c.deref.ensures.value, c.deref-2.ensures.value) (record {
      gdr = q.gdr;
      sizes = sizes_lie b ts q.tiling q.records q.linked q.sizes;
      tiled = tiling_sound b ts q.tiling;
      variables = variables b ts q.tiling q.records chains q.chains q.linked;
      once = variables_once b ts q.tiling q.records chains q.chains q.linked;
      few = omega (arith, variables_few b ts q.tiling q.records chains q.chains q.linked, q.small);
    })

pub returns-in-Err-clause-verdict : goal.returns-in-Err-clause-verdict
returns-in-Err-clause-verdict g c =
    let b = g.A.Area.image c.args.area.now in
    let ts = c.args.tiles.now in
    let q = c.requires in
    let chains = c.args.chains.now in
    let vs = chains.r_variables.items ++ chains.z_variables.items in
    let broken : Yields (phase7 b ts vs) (AreDescribed b vs) (Err c.in-Err.finding) = rw (c.in-Err.is, c.deref-3.ensures.value, c.in_ok-vdrs.ensures, c.deref.ensures.value, c.deref-2.ensures.value) at c.in_ok-described.ensures.found in
    rw c.in_phase.ensures (3, refl, variables_break b ts q.tiling q.records chains q.chains q.linked q.attributes c.in-Err.finding.rule c.in-Err.finding.place broken)

pub check_indexes-requires : goal.check_indexes-requires
check_indexes-requires g c =
    let b = g.A.Area.image c.args.area.now in
    let ts = c.args.tiles.now in
    let q = c.requires in
    let chains = c.args.chains.now in
    let vs = chains.r_variables.items ++ chains.z_variables.items in
    let described : Yields (phase7 b ts vs) (AreDescribed b vs) (Ok c.in-Ok.described) = rw (c.in-Ok.is, c.deref-3.ensures.value, c.in_ok-vdrs.ensures, c.deref.ensures.value, c.deref-2.ensures.value) at c.in_ok-described.ensures.found in
    rw (c.check_variables.ensures.area.image, c.deref-4.ensures.value, c.deref-5.ensures.value, c.deref-6.ensures.value, c.deref-7.ensures.value, c.in_ok-vdrs.ensures, c.deref.ensures.value, c.deref-2.ensures.value) (record {
      tiled = tiling_sound b ts q.tiling;
      small = q.small;
      described = described.0;
      cprs = described.1.cprs_are;
      sizes = described.1.sizes_are;
      heads = described.1.heads_are;
      marks = c.in_ok-owners.ensures.marks;
    })

pub own_members-requires : goal.own_members-requires
own_members-requires g c =
    let b = g.A.Area.image c.args.area.now in
    record { climbs = tiles_climb b 8 (length b) c.args.tiles.now (tiling_sound b c.args.tiles.now c.requires.tiling) }

pub add_all-requires : goal.add_all-requires
add_all-requires g c =
    let b = g.A.Area.image c.args.area.now in
    record { climbs = tiles_climb b 8 (length b) c.args.tiles.now (tiling_sound b c.args.tiles.now c.requires.tiling); marks = c.in_ok-broken.ensures.marks }

pub returns-in-Some-clause-verdict : goal.returns-in-Some-clause-verdict
returns-in-Some-clause-verdict g c =
    let b = g.A.Area.image c.args.area.now in
    let ts = c.args.tiles.now in
    let q = c.requires in
    let chains = c.args.chains.now in
    let vs = chains.r_variables.items ++ chains.z_variables.items in
    let described : Yields (phase7 b ts vs) (AreDescribed b vs) (Ok c.in-Ok.described) = rw (c.in-Ok.is, c.deref-3.ensures.value, c.in_ok-vdrs.ensures, c.deref.ensures.value, c.deref-2.ensures.value) at c.in_ok-described.ensures.found in
    let broken : Finds (phase8 b ts vs) (Some c.in-Some.finding) = rw (c.in-Some.is, c.check_variables.ensures.area.image, c.deref-4.ensures.value, c.in_ok-vdrs.ensures, c.deref.ensures.value, c.deref-2.ensures.value) at c.in_ok-broken.ensures.found in
    rw c.in_phase-in-Some.ensures (4, refl, indexes_break b ts q.tiling q.records chains q.chains q.linked q.attributes described.0 c.in-Some.finding.rule c.in-Some.finding.place broken)

pub check_read-requires : goal.check_read-requires
check_read-requires g c =
    let b = g.A.Area.image c.args.area.now in
    let ts = c.args.tiles.now in
    let chains = c.args.chains.now in
    let vs = chains.r_variables.items ++ chains.z_variables.items in
    let described : Yields (phase7 b ts vs) (AreDescribed b vs) (Ok c.in-Ok.described) = rw (c.in-Ok.is, c.deref-3.ensures.value, c.in_ok-vdrs.ensures, c.deref.ensures.value, c.deref-2.ensures.value) at c.in_ok-described.ensures.found in
    let as_many = ap length described.1.cprs_are ∙ length-map vs (cpr_at b) in
    rw (c.deref-8.ensures.value, c.deref-9.ensures.value, c.in_ok-vdrs.ensures, c.deref.ensures.value, c.deref-2.ensures.value) (record { as_many = as_many })

pub returns-in-Some-check_read-clause-verdict : goal.returns-in-Some-check_read-clause-verdict
returns-in-Some-check_read-clause-verdict g c =
    let b = g.A.Area.image c.args.area.now in
    let ts = c.args.tiles.now in
    let q = c.requires in
    let chains = c.args.chains.now in
    let vs = chains.r_variables.items ++ chains.z_variables.items in
    let described : Yields (phase7 b ts vs) (AreDescribed b vs) (Ok c.in-Ok.described) = rw (c.in-Ok.is, c.deref-3.ensures.value, c.in_ok-vdrs.ensures, c.deref.ensures.value, c.deref-2.ensures.value) at c.in_ok-described.ensures.found in
    let indexed : Finds (phase8 b ts vs) None = rw (c.in_default.is, c.check_variables.ensures.area.image, c.deref-4.ensures.value, c.in_ok-vdrs.ensures, c.deref.ensures.value, c.deref-2.ensures.value) at c.in_ok-broken.ensures.found in
    let read = rw (c.deref-8.ensures.value, c.deref-9.ensures.value, c.in_ok-vdrs.ensures, c.deref.ensures.value, c.deref-2.ensures.value) at c.check_read.ensures.found in
    let broken : Finds (unread_variables b vs) (Some c.in-Some-check_read.finding) = rw c.in-Some-check_read.is at (read b described.1.cprs_are) in
    rw c.in_phase-in-Some-check_read.ensures (5, refl, read_breaks b ts q.tiling q.records chains q.chains q.linked q.attributes described.0 indexed c.in-Some-check_read.finding.rule c.in-Some-check_read.finding.place broken)

pub returns-in-Some-check-clause-verdict : goal.returns-in-Some-check-clause-verdict
returns-in-Some-check-clause-verdict g c =
    let b = g.A.Area.image c.args.area.now in
    let ts = c.args.tiles.now in
    let q = c.requires in
    let chains = c.args.chains.now in
    let own = c.args.members.now in
    let vs = chains.r_variables.items ++ chains.z_variables.items in
    let owned = flat_map variable_records (map (variable_shape b ts) vs) in
    let described : Yields (phase7 b ts vs) (AreDescribed b vs) (Ok c.in-Ok.described) = rw (c.in-Ok.is, c.deref-3.ensures.value, c.in_ok-vdrs.ensures, c.deref.ensures.value, c.deref-2.ensures.value) at c.in_ok-described.ensures.found in
    let indexed : Finds (phase8 b ts vs) None = rw (c.in_default.is, c.check_variables.ensures.area.image, c.deref-4.ensures.value, c.in_ok-vdrs.ensures, c.deref.ensures.value, c.deref-2.ensures.value) at c.in_ok-broken.ensures.found in
    let told : IsToldOf ts owned c.in_ok-owners.owners c.check_indexes.new.owners = rw (c.check_variables.ensures.area.image, c.deref-4.ensures.value, c.in_ok-vdrs.ensures, c.deref.ensures.value, c.deref-2.ensures.value) at (c.in_ok-broken.ensures.told (ap Ok c.in_default.is)) in
    let knows = c.add_all.ensures.told ((8 ∷ c.args.gdr ∷ own) ++ owned) (told (8 ∷ c.args.gdr ∷ own) c.in_ok-owners.ensures.told) in
    let broken : Finds (phase9 ts ((8 ∷ c.args.gdr ∷ (own ++ owned)) ++ c.args.unused.now)) (Some c.in-Some-check.finding) = rw c.in-Some-check.is at (c.check.ensures.found ((8 ∷ c.args.gdr ∷ (own ++ owned)) ++ c.args.unused.now) knows) in
    let here = rw (q.unused, q.gdr) at broken in
    rw c.in_phase-in-Some-check.ensures (5, refl, owners_break b ts q.tiling q.records chains q.chains q.linked q.attributes described.0 indexed own (own ++ owned) q.members refl c.in-Some-check.finding.rule c.in-Some-check.finding.place here)

pub returns-clause-verdict : goal.returns-clause-verdict
returns-clause-verdict g c =
    let b = g.A.Area.image c.args.area.now in
    let ts = c.args.tiles.now in
    let q = c.requires in
    let chains = c.args.chains.now in
    let own = c.args.members.now in
    let vs = chains.r_variables.items ++ chains.z_variables.items in
    let owned = flat_map variable_records (map (variable_shape b ts) vs) in
    let described : Yields (phase7 b ts vs) (AreDescribed b vs) (Ok c.in-Ok.described) = rw (c.in-Ok.is, c.deref-3.ensures.value, c.in_ok-vdrs.ensures, c.deref.ensures.value, c.deref-2.ensures.value) at c.in_ok-described.ensures.found in
    let indexed : Finds (phase8 b ts vs) None = rw (c.in_default.is, c.check_variables.ensures.area.image, c.deref-4.ensures.value, c.in_ok-vdrs.ensures, c.deref.ensures.value, c.deref-2.ensures.value) at c.in_ok-broken.ensures.found in
    let told : IsToldOf ts owned c.in_ok-owners.owners c.check_indexes.new.owners = rw (c.check_variables.ensures.area.image, c.deref-4.ensures.value, c.in_ok-vdrs.ensures, c.deref.ensures.value, c.deref-2.ensures.value) at (c.in_ok-broken.ensures.told (ap Ok c.in_default.is)) in
    let knows = c.add_all.ensures.told ((8 ∷ c.args.gdr ∷ own) ++ owned) (told (8 ∷ c.args.gdr ∷ own) c.in_ok-owners.ensures.told) in
    let held : Finds (phase9 ts ((8 ∷ c.args.gdr ∷ (own ++ owned)) ++ c.args.unused.now)) None = rw c.in_default-check.is at (c.check.ensures.found ((8 ∷ c.args.gdr ∷ (own ++ owned)) ++ c.args.unused.now) knows) in
    let here = rw (q.unused, q.gdr) at held in
    let read = rw (c.deref-8.ensures.value, c.deref-9.ensures.value, c.in_ok-vdrs.ensures, c.deref.ensures.value, c.deref-2.ensures.value) at c.check_read.ensures.found in
    let unpacked : Finds (unread_variables b vs) None = rw c.in_default-check_read.is at (read b described.1.cprs_are) in
    all_held b ts q.tiling q.records chains q.chains q.linked q.attributes described.0 indexed own (own ++ owned) q.members refl unpacked here
