use Rattle.std.proofs.Common.{sym, arith}
use Rattle.cdf_script.proofs.Words.{counts_word, counts_end, counts_fault, takes_some}
use Rattle.cdf_script.proofs.word.count_words.Goals as goal

pub returns-in-Err : goal.returns-in-Err
returns-in-Err c = sym (counts_fault _ c.loop-found.count c.loop-found.place c.loop-found.left.now _ c.loop-found.invariant.so_far c.in-Err.ensures.finds)

pub loop-found-preserved : goal.loop-found-preserved
loop-found-preserved c =
    let first = rw c.in-Ok-Some.field-0-is at c.in-Ok-Some.ensures.finds in
    let some = takes_some c.loop-found.place c.loop-found.left.now c.in-Ok-Some.found.word c.in-Ok-Some.found.used first in
    record {
      so_far = counts_word _ c.loop-found.count c.loop-found.place c.in-Ok-Some.found.used c.loop-found.left.now c.split_at.result.1.now _ c.loop-found.invariant.so_far first c.split_at.ensures.back;
      all = omega arith;
      few = omega arith;
    }

pub loop-found-smaller : goal.loop-found-smaller
loop-found-smaller c =
    let first = rw c.in-Ok-Some.field-0-is at c.in-Ok-Some.ensures.finds in
    let some = takes_some c.loop-found.place c.loop-found.left.now c.in-Ok-Some.found.word c.in-Ok-Some.found.used first in
    omega arith

pub returns-in-Ok-None : goal.returns-in-Ok-None
returns-in-Ok-None c = sym (counts_end _ c.loop-found.count c.loop-found.place c.loop-found.left.now c.loop-found.invariant.so_far (rw c.in-Ok-None.field-0-is at c.in-Ok-None.ensures.finds))
