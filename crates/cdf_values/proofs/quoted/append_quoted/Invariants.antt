use Rattle.cdf_values.proofs.Common.{flat_map, quote, quoted_byte, take, ◌++◌, ◌∷◌, ◌≡◌}
use Rattle.cdf_values.proofs.quoted.append_quoted.Given as goal

abbrev pub invariant-loop-byte : goal.invariant-loop-byte
invariant-loop-byte l = l.text.items ≡ l.fn.text.items ++ (quote ∷ flat_map quoted_byte (take l.byte-index l.bytes))
