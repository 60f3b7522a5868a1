use Rattle.cdf_values.proofs.Common.{length, ◌%◌, ◌≡◌}
use Rattle.cdf_values.proofs.HexLemmas.{pairs_onto}
use Rattle.cdf_values.proofs.hex.read_hex.Given as goal

abbrev pub invariant-loop-rest : goal.invariant-loop-rest
invariant-loop-rest l = record {
  pairs : length l.rest % 2 ≡ 0;
  same : pairs_onto l.bytes.items l.rest ≡ pairs_onto l.fn.bytes.items l.word;
}

abbrev pub decreases-loop-rest : goal.decreases-loop-rest
decreases-loop-rest l = length l.rest
