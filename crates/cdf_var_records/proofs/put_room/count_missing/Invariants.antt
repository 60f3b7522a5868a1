use Rattle.cdf_var_records.proofs.Common.{Stays, covered_before, index_at, ranges_of, ◌+◌, ◌-◌, ◌≡◌, ◌≤◌}
use Rattle.cdf_puts.specs.Starts.{InTopChain}
use Rattle.cdf_var_records.proofs.put_room.count_missing.Given as goal

abbrev pub invariant-loop-turn : goal.invariant-loop-turn
invariant-loop-turn g l =
    let b = g.A.Area.image l.fn.area in
    record {
      begins : l.from ≤ l.k;
      ends : l.k ≤ l.rec + 1;
      goes : l.from + l.turn ≤ l.k;
      counts : covered_before l.from l.k (ranges_of (index_at b l.head)) + l.missing ≡ l.k - l.from;
      few : l.missing ≤ l.k - l.from;
      known : InTopChain (index_at b l.head) l.node;
      area : Stays g.A.Area.image g.A.Area.frame g.A.Area.faults g.A.Area.edited l.fn.area l.area;
    }
