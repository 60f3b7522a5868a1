use Rattle.std.proofs.Common.{rules, arith, ◌≡◌, ◌-◌, ◌+◌, replicate, get_or}
use Rattle.cdf_rle.proofs.ReadingLemmas.{read-data, read-pair, past-data, past-pair}
use Rattle.cdf_rle.proofs.reading.unpack_into.Goals as goal

pub returns-then-zeros-room : goal.returns-then-zeros-room
returns-then-zeros-room c =
    past-pair c.args.bytes.now c.loop-place.out c.loop-place.place c.loop-place.filled _ c.requires c.loop-place.invariant c.loop-place-test.true c.if-bytes-place-eq0.true c.loop-place.auto.out c.if-zeros-room.true

pub loop-place-preserved-then-bytes-place-eq0 : goal.loop-place-preserved-then-bytes-place-eq0
loop-place-preserved-then-bytes-place-eq0 c =
    let filling : c.fill.new.self ≡ replicate (c.loop-place.filled + (get_or c.args.bytes.now (c.loop-place.place + 1) 0 + 1) - c.loop-place.filled) 0 = search rules in
    read-pair c.args.bytes.now c.loop-place.out c.fill.new.self c.loop-place.place c.loop-place.filled _ c.loop-place.invariant c.loop-place-test.true c.if-bytes-place-eq0.true c.if-zeros-room.false (omega arith) filling

pub returns-then-count-room : goal.returns-then-count-room
returns-then-count-room c =
    past-data c.args.bytes.now c.loop-place.out c.loop-place.place c.loop-place.filled c.data_end-end.result _ c.requires c.loop-place.invariant c.data_end-end.ensures.end c.data_end-end.ensures.within c.loop-place.auto.out c.if-count-room.true

pub loop-place-preserved : goal.loop-place-preserved
loop-place-preserved c =
    rw c.copy_from_slice.ensures.after
    (read-data c.args.bytes.now c.loop-place.out c.loop-place.place c.loop-place.filled c.data_end-end.result _ c.loop-place.invariant c.data_end-end.ensures.end c.data_end-end.ensures.within c.if-count-room.false (omega arith))
