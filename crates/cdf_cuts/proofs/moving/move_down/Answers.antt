use Rattle.cdf_cuts.proofs.Common.{arith, edit_more, refl}
use Rattle.cdf_cuts.proofs.PiecesMoved.{moved_more, moved_none}
use Rattle.cdf_cuts.proofs.moving.move_down.Goals as goal

pub loop-done-init : goal.loop-done-init
loop-done-init g c = record { moved = moved_none _ c.args.from c.args.to; within = omega arith; area = record { frame = refl; faults = refl } }

pub loop-done-preserved : goal.loop-done-preserved
loop-done-preserved g c =
    let i = c.loop-done.invariant in
    record {
      moved = moved_more _ _ _ c.args.from c.args.to c.loop-done.done c.min-count.result c.requires.order (omega (arith, c.min-count.ensures, c.requires.room, i.within)) i.moved c.in_ok-move_piece.ensures.moved;
      within = omega (arith, c.min-count.ensures, i.within);
      area = edit_more i.area c.in_ok-move_piece.ensures.area;
    }
