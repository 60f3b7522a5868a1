use Rattle.cdf_check.proofs.Common.{sym, true, ◌∙◌, ◌≡◌}
use Rattle.cdf_format.specs.VariableRules.{is_cpr}
use Rattle.cdf_check.proofs.FieldSteps.{parameters_lie}
use Rattle.cdf_check.proofs.variable.check_packing.Goals as goal

pub is_known_packing-requires : goal.is_known_packing-requires
is_known_packing-requires g c =
    let b = g.A.Area.image c.args.area.now in
    let link = c.args.fields.now.cpr_or_spr_offset in
    let stands : is_cpr b c.args.tiles.now link ≡ true = sym c.in_ok-is_cpr.ensures.value ∙ c.if-not-branch.false in
    rw c.is_cpr.ensures.area.image (record { room = parameters_lie b c.args.tiles.now link c.requires.tiled stands })
