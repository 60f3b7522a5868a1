use Rattle.cdf_structure.proofs.Common.{None, SizesTile, Some, arith, length, read_more, suc, tiling, ◌+◌, ◌-◌, ◌∙◌, ◌≡◌, ◌≢◌}
use Rattle.cdf_structure.proofs.TileSteps.{tiles_end, tiles_stop, tiles_spent, tiles_more, tile_ends, tile_room}
use Rattle.cdf_structure.proofs.tiles.walk_tiles.Goals as goal

pub returns-then-place-eof-clause-walk : goal.returns-then-place-eof-clause-walk
returns-then-place-eof-clause-walk g c =
    let b = g.A.Area.image c.args.area.now in
    let l = c.loop-turn in
    (tiles_end b l.place l.walked.records.all.items (length b - l.turn) (tiling b) l.invariant.goes (c.if-place-eof.true ∙ c.size-eof.ensures), l.invariant.sorted)

pub returns-in-None-clause-walk : goal.returns-in-None-clause-walk
returns-in-None-clause-walk g c =
    let b = g.A.Area.image c.args.area.now in
    let l = c.loop-turn in
    let eof = c.size-eof.ensures in
    let ne : l.place ≢ length b = λ e. absurd (omega (arith, e, eof, c.if-place-eof.false)) in
    let none : SizesTile b l.place None = rw (c.in-None.is, l.invariant.area.image) at c.in_ok-size.ensures.size in
    tiles_stop b l.place l.walked.records.all.items (length b - l.turn) (tiling b) l.invariant.goes ne none

pub loop-turn-preserved : goal.loop-turn-preserved
loop-turn-preserved g c =
    let b = g.A.Area.image c.args.area.now in
    let l = c.loop-turn in
    let eof = c.size-eof.ensures in
    let ne : l.place ≢ length b = λ e. absurd (omega (arith, e, eof, c.if-place-eof.false)) in
    let some : SizesTile b l.place (Some c.in-Some.size) = rw (c.in-Some.is, l.invariant.area.image) at c.in_ok-size.ensures.size in
    let left : length b - l.turn ≡ suc (length b - (l.turn + 1)) = omega (arith, eof, c.loop-turn-test.true) in
    let fits = tile_ends b l.place some.0 in
    record {
      area = read_more (read_more l.invariant.area c.in_ok-size.ensures.area) c.in_ok-put_record-in-Some.ensures.area;
      within = omega (arith, fits, some.1);
      goes = rw (c.in_ok-put_record-in-Some.ensures.met, some.1) (tiles_more b l.place l.walked.records.all.items (length b - l.turn) (tiling b) l.invariant.goes (length b - (l.turn + 1)) left ne some.0);
      sorted = rw (c.tile_size.ensures.area.image, l.invariant.area.image) at (c.in_ok-put_record-in-Some.ensures.sorted (rw (c.tile_size.ensures.area.image, l.invariant.area.image) l.invariant.sorted));
    }

pub returns-then-place-eof-2-clause-walk : goal.returns-then-place-eof-2-clause-walk
returns-then-place-eof-2-clause-walk g c =
    let b = g.A.Area.image c.args.area.now in
    let l = c.loop-turn in
    (tiles_end b l.place l.walked.records.all.items (length b - l.turn) (tiling b) l.invariant.goes (c.if-place-eof-2.true ∙ c.size-eof.ensures), l.invariant.sorted)

pub returns-else-place-eof-2-clause-walk : goal.returns-else-place-eof-2-clause-walk
returns-else-place-eof-2-clause-walk g c =
    let b = g.A.Area.image c.args.area.now in
    let l = c.loop-turn in
    let eof = c.size-eof.ensures in
    let ne : l.place ≢ length b = λ e. absurd (omega (arith, e, eof, c.if-place-eof-2.false)) in
    tiles_spent b l.place l.walked.records.all.items (length b - l.turn) (tiling b) l.invariant.goes (omega (arith, eof, c.loop-turn-test.false)) ne

pub put_record-requires-clause-room : goal.put_record-requires-clause-room
put_record-requires-clause-room g c =
    let b = g.A.Area.image c.args.area.now in
    let l = c.loop-turn in
    let some : SizesTile b l.place (Some c.in-Some.size) = rw (c.in-Some.is, l.invariant.area.image) at c.in_ok-size.ensures.size in
    let fits = tile_room b l.place some.0 in
    rw (c.tile_size.ensures.area.image, l.invariant.area.image) fits

pub put_record-requires-clause-size : goal.put_record-requires-clause-size
put_record-requires-clause-size g c =
    let b = g.A.Area.image c.args.area.now in
    let l = c.loop-turn in
    let some : SizesTile b l.place (Some c.in-Some.size) = rw (c.in-Some.is, l.invariant.area.image) at c.in_ok-size.ensures.size in
    rw (c.tile_size.ensures.area.image, l.invariant.area.image) some.1
