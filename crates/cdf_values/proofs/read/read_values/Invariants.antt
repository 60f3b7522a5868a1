use Rattle.cdf_values.proofs.Common.{bytes_of_words, length, ◌+◌, ◌≡◌}
use Rattle.cdf_values.proofs.ReadLemmas.{words_onto}
use Rattle.cdf_values.proofs.read.read_values.Given as goal

abbrev pub invariant-loop-word : goal.invariant-loop-word
invariant-loop-word l = record {
  count : l.at + length l.rest ≡ length l.fn.words;
  same : words_onto l.fn.t l.elems l.at l.bytes.items l.rest ≡ bytes_of_words l.fn.t l.elems l.fn.words;
}

abbrev pub decreases-loop-word : goal.decreases-loop-word
decreases-loop-word l = length l.rest
