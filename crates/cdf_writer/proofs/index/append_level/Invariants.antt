use Rattle.std.proofs.Common.{drop, length, ◌++◌, ◌-◌, ◌≡◌, ◌≤◌}
use Rattle.cdf_writer.specs.Laying.{laid, naming, node_bodies, nodes_over}
use Rattle.cdf_writer.specs.Stops.{CutAt}
use Rattle.cdf_writer.specs.declared.appending.WriteStop.{WriteStop}
use Rattle.cdf_writer.proofs.index.append_level.Given as goal

abbrev pub invariant-loop-from : goal.invariant-loop-from
invariant-loop-from g l = record {
  within : l.from ≤ length l.entries;
  image : g.A.Area.image l.area ++ laid (node_bodies (drop l.from l.entries)) ≡ g.A.Area.image l.fn.area ++ laid (node_bodies l.entries);
  named : l.upper.items ++ naming (length (g.A.Area.image l.area)) (nodes_over (drop l.from l.entries)) ≡ naming (length (g.A.Area.image l.fn.area)) (nodes_over l.entries);
  frame : g.A.Area.frame l.area ≡ g.A.Area.frame l.fn.area;
  faults : g.A.Area.faults l.area ≡ g.A.Area.faults l.fn.area;
  fits : length (g.A.Area.image l.area) ≤ (g.A.Area.frame l.fn.area).limit;
  cut : (stop : WriteStop) → CutAt (g.A.Area.frame l.fn.area).limit (length (g.A.Area.image l.area)) (node_bodies (drop l.from l.entries)) stop → CutAt (g.A.Area.frame l.fn.area).limit (length (g.A.Area.image l.fn.area)) (node_bodies l.entries) stop;
}

abbrev pub decreases-loop-from : goal.decreases-loop-from
decreases-loop-from g l = length l.entries - l.from
