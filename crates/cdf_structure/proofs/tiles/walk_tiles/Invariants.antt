use Rattle.cdf_structure.proofs.Common.{AreSorted, Stays, length, tiles_from, tiling, ◌-◌, ◌≡◌, ◌≤◌}
use Rattle.cdf_structure.proofs.TileSteps.{behind}
use Rattle.cdf_structure.proofs.tiles.walk_tiles.Given as goal

abbrev pub invariant-loop-turn : goal.invariant-loop-turn
invariant-loop-turn g l = record {
  area : Stays g.A.Area.image g.A.Area.frame g.A.Area.faults g.A.Area.edited l.fn.area l.area;
  within : l.place ≤ length (g.A.Area.image l.fn.area);
  goes : behind l.walked.records.all.items (tiles_from (length (g.A.Area.image l.fn.area) - l.turn) (g.A.Area.image l.fn.area) l.place) ≡ tiling (g.A.Area.image l.fn.area);
  sorted : AreSorted (g.A.Area.image l.fn.area) l.walked;
}
