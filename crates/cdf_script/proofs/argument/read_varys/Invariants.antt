use Rattle.std.proofs.Common.{◌≡◌, ◌++◌, drop}
use Rattle.std.specs.Option.{option_map}
use Rattle.cdf_model.specs.Arguments.{letters_in}
use Rattle.cdf_script.proofs.argument.read_varys.Given as goal

abbrev pub invariant-loop-letter : goal.invariant-loop-letter
invariant-loop-letter l = letters_in l.word ≡ option_map (λ more. l.varys.items ++ more) (letters_in (drop l.letter-index l.word))
