use Rattle.cdf_leaves.proofs.Common.{edit_done, edit_failed, edit_more, keeps_by_read, read_once}
use Rattle.cdf_leaves.proofs.putting.split_node.Goals as goal

pub returns-in_err-shorten_node-clause-area : goal.returns-in_err-shorten_node-clause-area
returns-in_err-shorten_node-clause-area g c = edit_failed (edit_more (keeps_by_read (read_once c.in_ok-behind.ensures.area)) c.in_ok-at.ensures.area) c.in_err-shorten_node.ensures.area c.from_residual-in_err-shorten_node.ensures.1

pub returns-clause-area : goal.returns-clause-area
returns-clause-area g c = edit_done (edit_more (edit_more (keeps_by_read (read_once c.in_ok-behind.ensures.area)) c.in_ok-at.ensures.area) c.in_ok-shorten_node.ensures.area)
