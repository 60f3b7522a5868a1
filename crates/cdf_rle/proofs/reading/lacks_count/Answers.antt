use Rattle.std.proofs.Common.{arith}
use Rattle.cdf_rle.proofs.CutLemmas.{is_cut-more_zero, is_cut-more_other, flips, stops}
use Rattle.cdf_rle.proofs.reading.lacks_count.Goals as goal

pub loop-end-preserved : goal.loop-end-preserved
loop-end-preserved c = record {
  within = omega arith;
  same = flips _ _ _ _ c.loop-end.invariant.same (is_cut-more_zero c.args.bytes.now c.loop-end.end c.loop-end-test.true c.loop-end.invariant.within c.if-bytes-end-eq0.true);
}

pub returns-else-bytes-end-eq0 : goal.returns-else-bytes-end-eq0
returns-else-bytes-end-eq0 c =
    stops _ _ _ c.loop-end.invariant.same (is_cut-more_other c.args.bytes.now c.loop-end.end c.loop-end-test.true c.loop-end.invariant.within (omega arith))
