use Rattle.cdf_cuts.proofs.Common.{arith, edit_more, length-map, node_told}
use Rattle.cdf_cuts.proofs.Rewriting.{all_done, turn, turned}
use Rattle.cdf_cuts.proofs.writing.rewrite_nodes.Goals as goal

pub rewrite_node-requires-clause-inside : goal.rewrite_node-requires-clause-inside
rewrite_node-requires-clause-inside g c = (turn c.args.nodes.now c.loop-node.invariant.progress c.node-item.result c.loop-node-test.true c.node-item.is).inside

pub rewrite_node-requires-clause-room : goal.rewrite_node-requires-clause-room
rewrite_node-requires-clause-room g c = (turn c.args.nodes.now c.loop-node.invariant.progress c.node-item.result c.loop-node-test.true c.node-item.is).may.room_is

pub rewrite_node-requires-clause-used : goal.rewrite_node-requires-clause-used
rewrite_node-requires-clause-used g c = (turn c.args.nodes.now c.loop-node.invariant.progress c.node-item.result c.loop-node-test.true c.node-item.is).may.used_is

pub rewrite_node-requires-clause-few : goal.rewrite_node-requires-clause-few
rewrite_node-requires-clause-few g c = (turn c.args.nodes.now c.loop-node.invariant.progress c.node-item.result c.loop-node-test.true c.node-item.is).may.few

pub rewrite_node-requires-clause-short : goal.rewrite_node-requires-clause-short
rewrite_node-requires-clause-short g c = omega (arith, c.loop-node.invariant.progress.written.as_long, c.requires.short)

pub loop-node-preserved : goal.loop-node-preserved
loop-node-preserved g c =
    let i = c.loop-node.invariant in
    record { progress = turned (turn c.args.nodes.now i.progress c.node-item.result c.loop-node-test.true c.node-item.is) c.requires.once c.in_ok-rewrite_node.ensures.rewritten; area = edit_more i.area c.in_ok-rewrite_node.ensures.area }

pub returns-clause-rewritten : goal.returns-clause-rewritten
returns-clause-rewritten g c = all_done c.loop-node.invariant.progress (omega (arith, length-map c.args.nodes.now node_told, c.loop-node-test.false))
