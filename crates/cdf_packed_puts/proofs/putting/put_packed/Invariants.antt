use Rattle.std.proofs.Common.{◌+◌, ◌-◌}
use Rattle.cdf_area.specs.Calls.{Keeps}
use Rattle.cdf_puts.specs.Starts.{IsKnownStart}
use Rattle.cdf_packed_puts.specs.Putting.{PacksUpTo}
use Rattle.cdf_packed_puts.proofs.putting.put_packed.Given as goal

abbrev pub invariant-loop-so_far : goal.invariant-loop-so_far
invariant-loop-so_far g l = record {
  puts : PacksUpTo (g.A.Area.image l.fn.area) (g.A.Area.image l.area) (g.A.Area.frame l.fn.area).limit l.put l.so_far.next;
  known : IsKnownStart (g.A.Area.image l.area) l.put.vdr l.so_far.node;
  area : Keeps g.A.Area.frame g.A.Area.faults l.fn.area l.area;
}

abbrev pub decreases-loop-so_far : goal.decreases-loop-so_far
decreases-loop-so_far g l = l.put.rec + 1 - l.so_far.next
