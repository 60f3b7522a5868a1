use Rattle.cdf_blocks.proofs.Common.{arith}
use Rattle.cdf_blocks.proofs.PlacedLeaf.{lies_by, nodes_stay, order_placed, with_range_is}
use Rattle.cdf_index.proofs.LeavesAscend.{leaves_ascend}
use Rattle.cdf_blocks.proofs.laws.ranged_in_order.Goals as goal

pub returns-clause-nodes : goal.returns-clause-nodes
returns-clause-nodes c = nodes_stay

pub returns-clause-order : goal.returns-clause-order
returns-clause-order c old new index o i lies = order_placed old.first new 0 2147483646 index o (lies_by 0 2147483647 _ old new (leaves_ascend 0 2147483646 index o (omega arith)) i lies)

pub returns-clause-placed : goal.returns-clause-placed
returns-clause-placed c = with_range_is
