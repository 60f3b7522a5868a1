use Rattle.cdf_structure.proofs.Common.{length, linkable-in, tile_lies}
use Rattle.cdf_structure.proofs.index_walk.enter.Goals as goal

pub read_node-requires-clause-fits : goal.read_node-requires-clause-fits
read_node-requires-clause-fits g c =
    let b = g.A.Area.image c.args.area.now in
    (tile_lies b 8 (length b) c.args._tiles.now c.args.place c.requires.tiled (linkable-in b c.args._tiles.now 6 c.args.place c.requires.linkable)).high
