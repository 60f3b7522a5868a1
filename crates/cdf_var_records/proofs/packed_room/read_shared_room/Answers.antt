use Rattle.cdf_var_records.proofs.Common.{IsBlockRoom, arith, index_at, ranges_of, read_more, refl, shared_room, ◌<◌}
use Rattle.cdf_var_records.proofs.PackedRoomCount.{all_there, none_more, one_more}
use Rattle.cdf_var_records.proofs.packed_room.read_shared_room.Goals as goal

pub loop-turn-init : goal.loop-turn-init
loop-turn-init g c = record {
  goes = omega arith;
  ends = omega (arith, c.requires.more, c.requires.within);
  counts = none_more (shared_room c.args.rec_bytes c.args.first c.args.last (ranges_of (index_at (g.A.Area.image c.args.area.now) c.args.head)));
  few = omega arith;
  known = c.requires.known;
  area = record { image = refl; edited = refl; frame = refl; faults = refl };
}

pub read_block_room-requires-clause-search : goal.read_block_room-requires-clause-search
read_block_room-requires-clause-search g c = rw (c.begin.ensures.area.image) c.in_ok-search.ensures.search

pub read_block_room-requires-clause-order : goal.read_block_room-requires-clause-order
read_block_room-requires-clause-order g c = rw (c.begin.ensures.area.image, c.loop-turn.invariant.area.image, c.in_ok-search.ensures.head) c.requires.order

pub loop-turn-preserved : goal.loop-turn-preserved
loop-turn-preserved g c =
    let b = g.A.Area.image c.args.area.now in
    let l = c.loop-turn in
    let block = c.in_ok-block.block in
    let ranges = ranges_of (index_at b c.args.head) in
    let searched = rw (l.invariant.area.image) at c.in_ok-search.ensures.search in
    let is : IsBlockRoom ranges c.args.rec_bytes l.k block = rw (c.begin.ensures.area.image, l.invariant.area.image, c.in_ok-search.ensures.head, c.in_ok-search.ensures.rec) at c.in_ok-block.ensures.room in
    let goes = l.invariant.goes in
    let some = is.some in
    record {
      goes = omega arith;
      ends = is.inside;
      counts = omega (arith, one_more ranges c.args.rec_bytes c.args.first c.args.last l.k l.room block (omega arith) is l.invariant.counts, c.from-room.ensures);
      few = omega (arith, l.invariant.few);
      known = rw (c.in_ok-search.ensures.head) at (c.node-node.ensures b searched);
      area = read_more (read_more l.invariant.area c.in_ok-search.ensures.area) c.in_ok-block.ensures.area;
    }

pub returns-then-last-k-clause-room : goal.returns-then-last-k-clause-room
returns-then-last-k-clause-room g c =
    let l = c.loop-turn in
    all_there (ranges_of (index_at (g.A.Area.image c.args.area.now) c.args.head)) c.args.rec_bytes c.args.first c.args.last l.k l.room c.if-last-k.true l.invariant.counts

pub returns-clause-room : goal.returns-clause-room
returns-clause-room g c =
    let l = c.loop-turn in
    let past : c.args.last < l.k = omega (arith, l.invariant.goes, c.loop-turn-test.false) in
    all_there (ranges_of (index_at (g.A.Area.image c.args.area.now) c.args.head)) c.args.rec_bytes c.args.first c.args.last l.k l.room past l.invariant.counts
