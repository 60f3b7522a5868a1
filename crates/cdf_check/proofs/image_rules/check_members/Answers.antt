use Rattle.cdf_check.proofs.Common.{Global, IsBroken, Ok, Vec, Yields, attribute_records, attribute_shape, flat_map, map, phase6, refl, tiling_sound, ℕ, ◌≡◌}
use Rattle.cdf_check.proofs.ImageSteps.{all_long, attributes_break}
use Rattle.cdf_check.proofs.image_rules.check_members.Goals as goal

pub check_attributes-requires-clause-tiled : goal.check_attributes-requires-clause-tiled
check_attributes-requires-clause-tiled g c = tiling_sound (g.A.Area.image c.args.area.now) c.args.tiles.now c.requires.tiling

pub check_attributes-requires-clause-long : goal.check_attributes-requires-clause-long
check_attributes-requires-clause-long g c = all_long (g.A.Area.image c.args.area.now) c.args.tiles.now c.requires.tiling c.requires.records

pub check_attributes-requires-clause-chain : goal.check_attributes-requires-clause-chain
check_attributes-requires-clause-chain g c = rw c.deref.ensures.value c.requires.chains.attributes

pub returns-in-Err-clause-verdict : goal.returns-in-Err-clause-verdict
returns-in-Err-clause-verdict g c =
    let b = g.A.Area.image c.args.area.now in
    let broken : IsBroken (phase6 b c.args.tiles.now c.args.chains.now.attributes.items) c.in-Err.finding.rule c.in-Err.finding.place = rw (c.in-Err.is, c.deref.ensures.value) at c.in_ok-members.ensures.found in
    rw c.in_phase.ensures (2, refl, attributes_break b c.args.tiles.now c.requires.tiling c.requires.records c.args.chains.now c.requires.chains c.requires.linked c.in-Err.finding.rule c.in-Err.finding.place broken)

pub check_variable_members-requires : goal.check_variable_members-requires
check_variable_members-requires g c =
    let b = g.A.Area.image c.args.area.now in
    let ts = c.args.tiles.now in
    let chains = c.args.chains.now in
    let members : Yields (phase6 b ts chains.attributes.items) (λ (v : Vec ℕ Global). v.items ≡ flat_map attribute_records (map (attribute_shape b ts) chains.attributes.items)) (Ok c.in-Ok.members) = rw (c.in-Ok.is, c.deref.ensures.value) at c.in_ok-members.ensures.found in
    rw (c.check_attributes.ensures.area.image, c.deref-2.ensures.value) (record {
      tiling = c.requires.tiling;
      unused = c.requires.unused;
      records = c.requires.records;
      chains = c.requires.chains;
      linked = c.requires.linked;
      attributes = members.0;
      members = members.1;
      small = c.requires.small;
      gdr = c.requires.gdr;
      sizes = c.requires.sizes;
    })
