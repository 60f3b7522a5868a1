use Rattle.cdf_values.proofs.Common.{length, values_text, ◌%◌, ◌++◌, ◌≡◌}
use Rattle.cdf_values.proofs.WriteLemmas.{led}
use Rattle.cdf_values.proofs.write.append_values.Given as goal

abbrev pub invariant-loop-rest : goal.invariant-loop-rest
invariant-loop-rest l = record {
  whole : length l.rest % l.size ≡ 0;
  same : l.text.items ++ led l.fn.t l.size l.rest ≡ l.fn.text.items ++ values_text l.fn.t l.elems l.fn.bytes;
}

abbrev pub decreases-loop-rest : goal.decreases-loop-rest
decreases-loop-rest l = length l.rest
