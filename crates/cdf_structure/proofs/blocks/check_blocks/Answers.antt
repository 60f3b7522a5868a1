use Rattle.cdf_structure.proofs.Common.{Block, HasRoom, Ok, Yields, block_rows, get_or, read_more}
use Rattle.cdf_structure.proofs.IndexAgain.{have_room_more}
use Rattle.cdf_structure.proofs.Rows.{broken_member}
use Rattle.cdf_structure.proofs.blocks.check_blocks.Goals as goal

pub returns-in-Err-clause-found : goal.returns-in-Err-clause-found
returns-in-Err-clause-found g c =
    let l = c.loop-block in
    let b = g.A.Area.image c.args.area.now in
    broken_member (block_rows b c.args.tiles.now c.args.is_compressed c.args.rec_bytes) c.args.blocks.now l.block-index _ c.in-Err.broken.rule c.in-Err.broken.place c.loop-block-test.true (rw (c.in-Err.is, l.invariant.area.image) at c.in_ok-share.ensures.found)

pub loop-block-preserved : goal.loop-block-preserved
loop-block-preserved g c =
    let l = c.loop-block in
    let b = g.A.Area.image c.args.area.now in
    let ts = c.args.tiles.now in
    let compressed = c.args.is_compressed in
    let bytes = c.args.rec_bytes in
    let blocks = c.args.blocks.now in
    let d : Block = record { first = 0; last = 0; place = 0 } in
    let m = get_or blocks l.block-index d in
    let here : Yields (block_rows b ts compressed bytes m) (HasRoom b ts m compressed bytes) (Ok c.in-Ok.share) = rw (c.in-Ok.is, l.invariant.area.image) at c.in_ok-share.ensures.found in
    record {
      area = read_more l.invariant.area c.in_ok-share.ensures.area;
      known = rw l.invariant.area.image at c.in_ok-share.ensures.known;
      room = have_room_more b ts blocks l.block-index compressed bytes l.room c.in-Ok.share c.narrowed-room.result d c.loop-block-test.true c.narrowed-room.ensures l.invariant.room here.1;
    }
