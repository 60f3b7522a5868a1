use Rattle.cdf_check.proofs.Common.{arith, is_a-in, length, size_at, sym, tile_lies, ◌∙◌, ◌≡◌}
use Rattle.cdf_format.specs.RecordTypes.{cpr_type}
use Rattle.cdf_check.proofs.parameters.is_cpr.Goals as goal

pub overflow_add-place : goal.overflow_add-place
overflow_add-place g c =
    let b = g.A.Area.image c.args.area.now in
    let ts = c.args.tiles.now in
    let place = c.args.place in
    let lies = tile_lies b 8 (length b) ts place c.requires.tiled (is_a-in b ts cpr_type place (sym c.in_ok-is_a.ensures.value ∙ c.if-not-branch.false)) in
    let size : c.in_ok-size.size ≡ size_at b place = rw c.is_a.ensures.area.image at c.in_ok-size.ensures.value in
    omega (arith, lies.high, size, c.if-size-lt-CPR_PARAMETER.false, c.size-size.ensures)

pub read_unsigned4-requires : goal.read_unsigned4-requires
read_unsigned4-requires g c =
    let b = g.A.Area.image c.args.area.now in
    let ts = c.args.tiles.now in
    let place = c.args.place in
    let lies = tile_lies b 8 (length b) ts place c.requires.tiled (is_a-in b ts cpr_type place (sym c.in_ok-is_a.ensures.value ∙ c.if-not-branch.false)) in
    let size : c.in_ok-size.size ≡ size_at b place = rw c.is_a.ensures.area.image at c.in_ok-size.ensures.value in
    rw (c.read_size.ensures.area.image, c.is_a.ensures.area.image) (omega (arith, lies.high, size, c.if-size-lt-CPR_PARAMETER.false))
