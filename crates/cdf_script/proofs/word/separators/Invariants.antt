use Rattle.std.proofs.Common.{◌≡◌, ◌+◌, drop}
use Rattle.cdf_model.specs.Quoting.{separators}
use Rattle.cdf_script.proofs.word.separators.Given as goal

abbrev pub invariant-loop-count : goal.invariant-loop-count
invariant-loop-count l = separators l.text ≡ l.count + separators (drop l.count l.text)
