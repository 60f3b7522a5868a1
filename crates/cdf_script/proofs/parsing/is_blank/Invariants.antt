use Rattle.std.proofs.Common.{◌≡◌, drop}
use Rattle.cdf_model.specs.Lines.{is_blank}
use Rattle.cdf_script.proofs.parsing.is_blank.Given as goal

abbrev pub invariant-loop-byte : goal.invariant-loop-byte
invariant-loop-byte l = is_blank l.line ≡ is_blank (drop l.byte-index l.line)
