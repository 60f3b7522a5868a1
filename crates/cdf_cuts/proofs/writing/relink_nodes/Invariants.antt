use Rattle.cdf_cuts.proofs.Common.{Keeps, tiles}
use Rattle.cdf_cuts.proofs.Relinking.{Progress}
use Rattle.cdf_cuts.proofs.writing.relink_nodes.Given as goal

abbrev pub invariant-loop-link : goal.invariant-loop-link
invariant-loop-link g l = record {
  progress : Progress (g.A.Area.image l.fn.area) (g.A.Area.image l.area) (tiles (g.A.Area.image l.fn.area)) l.links l.link-index;
  area : Keeps g.A.Area.frame g.A.Area.faults l.fn.area l.area;
}
