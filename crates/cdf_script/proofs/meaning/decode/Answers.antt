use Rattle.std.proofs.Common.{arith}
use Rattle.cdf_script.proofs.Escapes.{decodes}
use Rattle.cdf_script.proofs.meaning.decode.Goals as goal

pub loop-unit-preserved : goal.loop-unit-preserved
loop-unit-preserved c = record {
  so_far = decodes _ _ _ _ _ _ _ _ c.loop-unit.invariant.so_far (rw c.in-Ok-Some.field-0-is at c.in-Ok-Some.ensures.means) c.in_ok-push.ensures.items c.split_at.ensures.back;
  all = omega arith;
}
