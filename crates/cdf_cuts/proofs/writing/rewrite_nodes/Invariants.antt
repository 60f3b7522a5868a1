use Rattle.cdf_cuts.proofs.Common.{Keeps, map, node_told, tiles}
use Rattle.cdf_cuts.proofs.Rewriting.{Progress}
use Rattle.cdf_cuts.proofs.writing.rewrite_nodes.Given as goal

abbrev pub invariant-loop-node : goal.invariant-loop-node
invariant-loop-node g l = record {
  progress : Progress (g.A.Area.image l.fn.area) (g.A.Area.image l.area) (tiles (g.A.Area.image l.fn.area)) (map node_told l.nodes) l.node-index;
  area : Keeps g.A.Area.frame g.A.Area.faults l.fn.area l.area;
}
