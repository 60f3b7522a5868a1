use Rattle.cdf_var_records.proofs.Common.{IsStretch, arith, index_at, ranges_of, read_more, refl}
use Rattle.cdf_var_records.proofs.PutRoomCount.{none_yet_of, one_more}
use Rattle.cdf_var_records.proofs.put_room.count_missing.Goals as goal

pub loop-turn-init : goal.loop-turn-init
loop-turn-init g c = record {
  begins = omega arith;
  ends = (let more = c.requires.more in omega arith);
  goes = omega arith;
  counts = none_yet_of c.args.from (ranges_of (index_at (g.A.Area.image c.args.area.now) c.args.head));
  few = omega arith;
  known = c.requires.known;
  area = record { image = refl; edited = refl; frame = refl; faults = refl };
}

pub read_stretch-requires-clause-search : goal.read_stretch-requires-clause-search
read_stretch-requires-clause-search g c = rw (c.begin.ensures.area.image) c.in_ok-search.ensures.search

pub read_stretch-requires-clause-order : goal.read_stretch-requires-clause-order
read_stretch-requires-clause-order g c = rw (c.begin.ensures.area.image, c.loop-turn.invariant.area.image, c.in_ok-search.ensures.head) c.requires.order

pub loop-turn-preserved : goal.loop-turn-preserved
loop-turn-preserved g c =
    let b = g.A.Area.image c.args.area.now in
    let l = c.loop-turn in
    let s = c.in_ok-stretch.stretch in
    let ranges = ranges_of (index_at b c.args.head) in
    let searched = rw (l.invariant.area.image) at c.in_ok-search.ensures.search in
    let is : IsStretch ranges l.k c.args.rec s = rw (c.begin.ensures.area.image, l.invariant.area.image, c.in_ok-search.ensures.head, c.in_ok-search.ensures.rec) at c.in_ok-stretch.ensures.stretch in
    let begins = l.invariant.begins in
    let goes = l.invariant.goes in
    let some = is.some in
    record {
      begins = omega arith;
      ends = is.inside;
      goes = omega arith;
      counts = one_more ranges c.args.from l.k c.args.rec l.missing s begins is l.invariant.counts;
      few = omega (arith, is.counts, is.some, l.invariant.few);
      known = rw (c.in_ok-search.ensures.head) at (c.node-node.ensures b searched);
      area = read_more (read_more l.invariant.area c.in_ok-search.ensures.area) c.in_ok-stretch.ensures.area;
    }
