use Rattle.cdf_leaves.proofs.AddCalls.{may_add, start_there}
use Rattle.cdf_leaves.proofs.adding.add_leaf.Goals as goal

pub begin_index-requires-clause-none : goal.begin_index-requires-clause-none
begin_index-requires-clause-none g c = (start_there (may_add c.requires.good c.requires.vdr c.requires.body c.requires.block c.requires.room c.requires.limit) _ _ c.requires.start).empty c.if-start-ne0.false
