use Rattle.std.proofs.Common.{◌≡◌, ◌+◌, drop}
use Rattle.std.specs.Prelude.{◌||◌, ◌==◌}
use Rattle.std.specs.List.{position_or_len}
use Rattle.cdf_model.specs.Quoting.{is_separator}
use Rattle.cdf_script.proofs.word.bare_length.Given as goal

abbrev pub invariant-loop-count : goal.invariant-loop-count
invariant-loop-count l = position_or_len (λ c. is_separator c || (c == 34)) l.text ≡ l.count + position_or_len (λ c. is_separator c || (c == 34)) (drop l.count l.text)
