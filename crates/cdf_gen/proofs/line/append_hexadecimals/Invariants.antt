use Rattle.std.proofs.Common.{◌≡◌, ◌++◌, codes}
use Rattle.std.specs.List.{repeat}
use Rattle.cdf_gen.specs.Generated.{hexadecimal}
use Rattle.cdf_gen.proofs.line.append_hexadecimals.Given as goal

abbrev pub invariant-loop : goal.invariant-loop
invariant-loop l = l.text.items ≡ l.fn.text.items ++ repeat l.counter (codes " " ++ hexadecimal l.number)
