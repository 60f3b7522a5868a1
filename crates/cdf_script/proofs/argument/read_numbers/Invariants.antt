use Rattle.std.proofs.Common.{◌≡◌, ◌++◌, length, map}
use Rattle.std.specs.Option.{option_map}
use Rattle.cdf_model.specs.Arguments.{all_of, number_in}
use Rattle.cdf_script.specs.Commas.{parts}
use Rattle.cdf_script.proofs.argument.read_numbers.Given as goal

abbrev pub invariant-loop-number : goal.invariant-loop-number
invariant-loop-number l = all_of (map number_in (parts l.fn.word)) ≡ option_map (λ more. l.numbers.items ++ more) (all_of (map number_in (parts l.left)))

abbrev pub decreases-loop-number : goal.decreases-loop-number
decreases-loop-number l = length l.left
