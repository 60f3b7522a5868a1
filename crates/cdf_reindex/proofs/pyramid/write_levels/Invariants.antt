use Rattle.cdf_reindex.proofs.Common.{IsSound, Keeps, eof, gdr_offset, length, shape, ◌≡◌, ◌≤◌}
use Rattle.cdf_reindex.proofs.LevelSteps.{HasLevels, OverAll}
use Rattle.cdf_reindex.proofs.pyramid.write_levels.Given as goal

abbrev pub invariant-loop-alloc : goal.invariant-loop-alloc
invariant-loop-alloc g l = record {
  made : OverAll (g.A.Area.image l.fn.area) (g.A.Area.image l.area) l.fn.entries l.level.items;
  some : 1 ≤ length l.level.items;
  room : HasLevels (length (g.A.Area.image l.area)) (length l.level.items) (g.A.Area.frame l.fn.area).limit;
  sound : IsSound (g.A.Area.image l.area) (shape (g.A.Area.image l.area));
  eof_is : eof (g.A.Area.image l.area) (gdr_offset (g.A.Area.image l.area)) ≡ length (g.A.Area.image l.area);
  area : Keeps g.A.Area.frame g.A.Area.faults l.fn.area l.area;
}

abbrev pub decreases-loop-alloc : goal.decreases-loop-alloc
decreases-loop-alloc g l = length l.level.items
