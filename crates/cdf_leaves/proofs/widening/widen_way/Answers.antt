use Rattle.cdf_leaves.proofs.Along.{widen_more}
use Rattle.cdf_leaves.proofs.Common.{arith, edit_more}
use Rattle.cdf_leaves.proofs.widening.widen_way.Goals as goal

pub loop-turn-preserved : goal.loop-turn-preserved
loop-turn-preserved g c =
    let t = c.loop-turn-test.true in
    let e = c.loop-turn.auto.turn-end in
    record { along = widen_more c.loop-turn.invariant.along _ (omega arith) c.in_ok-widen_entry.ensures.widened; area = edit_more c.loop-turn.invariant.area c.in_ok-widen_entry.ensures.area }
