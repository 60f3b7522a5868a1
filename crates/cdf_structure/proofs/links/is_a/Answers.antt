use Rattle.cdf_structure.proofs.Common.{arith, sym, tile_lies, true-is_in, ◌∙◌}
use Rattle.cdf_structure.proofs.Searches.{tiles_ascend}
use Rattle.cdf_structure.proofs.links.is_a.Goals as goal

pub stands_in-requires : goal.stands_in-requires
stands_in-requires g c = record { ascends = tiles_ascend _ 8 _ c.args.tiles.now c.requires.tiled }

pub read_type-requires : goal.read_type-requires
read_type-requires g c =
    let lies = tile_lies _ 8 _ c.args.tiles.now c.args.place c.requires.tiled (true-is_in c.args.place c.args.tiles.now (sym c.stands_in.ensures ∙ c.if-not-stands_in.false)) in
    omega (arith, lies.high, lies.long)
