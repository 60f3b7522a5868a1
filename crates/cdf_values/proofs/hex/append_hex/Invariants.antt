use Rattle.cdf_values.proofs.Common.{hex_text, take, ◌++◌, ◌≡◌}
use Rattle.cdf_values.proofs.hex.append_hex.Given as goal

abbrev pub invariant-loop-byte : goal.invariant-loop-byte
invariant-loop-byte l = l.text.items ≡ l.fn.text.items ++ hex_text (take l.byte-index l.bytes)
