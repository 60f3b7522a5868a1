use Rattle.std.proofs.Common.{slice_index, ℕ, ◌<◌}
use Rattle.cdf_convert_tests.proofs.made.are_bytes.Given as goal

abbrev pub invariant-loop-byte : goal.invariant-loop-byte
invariant-loop-byte l = (i : ℕ) → i < l.byte-index → slice_index l.bytes i < 256
