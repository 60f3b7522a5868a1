use Rattle.cdf_var_records.proofs.Common.{Stays, index_at, leaves_of, ◌-◌, ◌≤◌}
use Rattle.cdf_var_records.proofs.next.find_first.Given as goal
use Rattle.cdf_puts.specs.Starts.{InTopChain}
use Rattle.cdf_var_records.specs.Next.{NoneIn}

abbrev pub invariant-loop-num : goal.invariant-loop-num
invariant-loop-num g l = record {
  least : l.from ≤ l.num;
  none : NoneIn (leaves_of (index_at (g.A.Area.image l.fn.area) l.head)) l.from l.num;
  known : InTopChain (index_at (g.A.Area.image l.fn.area) l.head) l.node;
  area : Stays g.A.Area.image g.A.Area.frame g.A.Area.faults g.A.Area.edited l.fn.area l.area;
}

abbrev pub decreases-loop-num : goal.decreases-loop-num
decreases-loop-num g l = l.end - l.num
