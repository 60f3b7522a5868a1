use Rattle.cdf_leaves.proofs.Common.{edit_done, edit_more, edit_once}
use Rattle.cdf_leaves.proofs.AddCalls.{first_there, still_ends}
use Rattle.cdf_leaves.proofs.adding.begin_index.Goals as goal

pub start_index-requires-clause-eof : goal.start_index-requires-clause-eof
start_index-requires-clause-eof g c = still_ends c.requires.may_add c.in_ok-place.ensures.placed

pub returns-clause-added : goal.returns-clause-added
returns-clause-added g c = first_there c.requires.may_add c.in_ok-place.ensures.placed c.requires.none c.in_ok-start_index.ensures.started

pub returns-clause-area : goal.returns-clause-area
returns-clause-area g c = edit_done (edit_more (edit_once c.in_ok-place.ensures.area) c.in_ok-start_index.ensures.area)
