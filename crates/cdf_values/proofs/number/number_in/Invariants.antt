use Rattle.cdf_values.proofs.Common.{number_of, take, ◌<◌, ◌^◌, ◌≡◌}
use Rattle.cdf_values.proofs.number.number_in.Given as goal

abbrev pub invariant-loop-byte : goal.invariant-loop-byte
invariant-loop-byte l = record {
  value : l.number ≡ number_of (take l.byte-index l.bytes);
  fits : l.number < 256 ^ l.byte-index;
}
