use Rattle.std.proofs.Common.{take, arith, ap, ℕ}
use Rattle.cdf_store.proofs.LimitedReads.{read_to_end, read_to_limit}
use Rattle.cdf_store.proofs.file_store.reading.read_whole.Goals as goal

pub returns-in-Ok-eq0 : goal.returns-in-Ok-eq0
returns-in-Ok-eq0 g c =
    let R = g.F.Read.remaining in
    let none = ap (λ (n : ℕ). take n c.read_some.new.out) c.in-Ok-eq0.field-0-test in
    read_to_end (R c.args.file.now) (R c.loop-room.file) (R c.read_some.new.file) c.args.pieces.now.bytes c.loop-room.pieces.bytes (take c.in-Ok-eq0.field-0 c.read_some.new.out)
    c.loop-room.room _ c.loop-room.invariant c.in-Ok-eq0.ensures.bytes.0 none (c.in-Ok-eq0.ensures.bytes.1 c.in-Ok-eq0.field-0-test (search arith))

pub returns : goal.returns
returns g c =
    let R = g.F.Read.remaining in
    read_to_limit (R c.args.file.now) (R c.loop-room.file) c.args.pieces.now.bytes c.loop-room.pieces.bytes c.loop-room.room _ c.loop-room.invariant c.loop-room-test.false
