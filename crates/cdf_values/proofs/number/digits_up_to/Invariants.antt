use Rattle.cdf_values.proofs.Common.{digits_from, drop, ◌≡◌, ◌≤◌}
use Rattle.cdf_values.proofs.number.digits_up_to.Given as goal

abbrev pub invariant-loop-byte : goal.invariant-loop-byte
invariant-loop-byte l = record {
  fits : l.number ≤ l.most;
  same : digits_from l.most l.number (drop l.byte-index l.word) ≡ digits_from l.most 0 l.word;
}
