use Rattle.cdf_structure.proofs.Common.{arith, ints, negsuc, refl}
use Rattle.cdf_structure.proofs.IndexMet.{index_met, index_is_lost}
use Rattle.cdf_structure.proofs.indexes.walk_index.Goals as goal

pub returns-in-Ok-clause-walk : goal.returns-in-Ok-clause-walk
returns-in-Ok-clause-walk g c =
    let b = g.A.Area.image c.args.area.now in
    let met = rw c.in-Ok.is at c.in_ok-walk_nodes.ensures.walk in
    index_met b c.args.tiles.now c.args.vdr _ _ c.new-index.result c.walk_nodes.new.index c.requires.head c.new-index.ensures.no_nodes c.new-index.ensures.no_blocks c.new-index.ensures.none met refl (omega (arith, ints, c.from.ensures))

pub returns-in-Err-clause-walk : goal.returns-in-Err-clause-walk
returns-in-Err-clause-walk g c =
    let b = g.A.Area.image c.args.area.now in
    let lost = rw c.in-Err.is at c.in_ok-walk_nodes.ensures.walk in
    index_is_lost b c.args.tiles.now c.args.vdr _ (record { low = negsuc 0; high = negsuc 0 }) c.new-index.result c.walk_nodes.new.index c.requires.head c.new-index.ensures.no_nodes c.in-Err.place lost
