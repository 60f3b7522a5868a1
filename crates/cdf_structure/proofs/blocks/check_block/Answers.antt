use Rattle.cdf_structure.proofs.Common.{cvvr_type, is_a, is_a-in, length, sym, tile_lies, true, ◌∙◌, ◌≡◌}
use Rattle.cdf_structure.proofs.blocks.check_block.Goals as goal

pub check_packed-requires-clause-fits : goal.check_packed-requires-clause-fits
check_packed-requires-clause-fits g c =
    let b = g.A.Area.image c.args.area.now in
    let ts = c.args.tiles.now in
    let place = c.args.block.now.place in
    let stands : is_a b ts cvvr_type place ≡ true = rw c.is_a.ensures.area.image at (sym c.in_ok-is_a-2.ensures.value ∙ c.if-not-branch.false) in
    let lies = tile_lies b 8 (length b) ts place c.requires.tiled (is_a-in b ts cvvr_type place stands) in
    rw (c.is_a-2.ensures.area.image, c.is_a.ensures.area.image) lies.high
