use Rattle.cdf_var_records.proofs.Common.{Stays, index_at, ranges_of, record_number_limit, shared_room, ◌*◌, ◌+◌, ◌^◌, ◌≡◌, ◌≤◌}
use Rattle.cdf_puts.specs.Starts.{InTopChain}
use Rattle.cdf_var_records.proofs.packed_room.read_shared_room.Given as goal

abbrev pub invariant-loop-turn : goal.invariant-loop-turn
invariant-loop-turn g l =
    let b = g.A.Area.image l.fn.area in
    record {
      goes : l.first + l.turn ≤ l.k;
      ends : l.k ≤ record_number_limit + 1;
      counts : shared_room l.rec_bytes l.first l.last (ranges_of (index_at b l.head)) ≡ l.room + shared_room l.rec_bytes l.k l.last (ranges_of (index_at b l.head));
      few : l.room ≤ l.turn * 2 ^ 64;
      known : InTopChain (index_at b l.head) l.node;
      area : Stays g.A.Area.image g.A.Area.frame g.A.Area.faults g.A.Area.edited l.fn.area l.area;
    }
