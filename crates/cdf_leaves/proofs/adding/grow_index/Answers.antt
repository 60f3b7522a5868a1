use Rattle.cdf_leaves.proofs.AddCalls.{start_there, way_from}
use Rattle.cdf_leaves.proofs.adding.grow_index.Goals as goal

pub find_way-requires-clause-index : goal.find_way-requires-clause-index
find_way-requires-clause-index g c = (start_there c.requires.may_add _ _ c.requires.start).has

pub hang_leaf-requires-clause-way : goal.hang_leaf-requires-clause-way
hang_leaf-requires-clause-way g c = rw c.in_ok-way.ensures.area.image (way_from c.requires.may_add _ _ c.requires.start c.in_ok-way.ensures.way)

pub returns-clause-added : goal.returns-clause-added
returns-clause-added g c = rw c.in_ok-way.ensures.area.image at c.in_ok-hang_leaf.ensures.added
