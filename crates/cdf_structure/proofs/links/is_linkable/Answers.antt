use Rattle.cdf_structure.proofs.Common.{arith, is_a-in, length, sym, tile_lies, ◌∙◌}
use Rattle.cdf_structure.proofs.links.is_linkable.Goals as goal

pub read_size-requires : goal.read_size-requires
read_size-requires g c =
    let b = g.A.Area.image c.args.area.now in
    let inside = is_a-in b c.args.tiles.now c.args.record_type c.args.place (sym c.in_ok-is_a.ensures.value ∙ c.if-not-branch.false) in
    let lies = tile_lies b 8 (length b) c.args.tiles.now c.args.place c.requires.tiled inside in
    rw c.is_a.ensures.area.image (omega (arith, lies.high, lies.long))
