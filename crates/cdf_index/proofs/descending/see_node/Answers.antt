use Rattle.cdf_index.proofs.Looking.{node_inside}
use Rattle.cdf_index.proofs.descending.see_node.Goals as goal

pub read_node-requires-clause-inside : goal.read_node-requires-clause-inside
read_node-requires-clause-inside g c = node_inside (g.A.Area.image c.args.area.now) c.args.at c.requires.node
