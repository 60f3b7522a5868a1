use Rattle.std.proofs.Common.{◌≡◌, ◌+◌, length}
use Rattle.std.specs.Option.{option_map}
use Rattle.cdf_model.specs.Quoting.{before_quote}
use Rattle.cdf_script.proofs.meaning.before_quote.Given as goal

abbrev pub invariant-loop-left : goal.invariant-loop-left
invariant-loop-left l = record {
  place : before_quote l.text ≡ option_map (λ n. l.count + n) (before_quote l.left);
  all : l.count + length l.left ≡ length l.text;
}

abbrev pub decreases-loop-left : goal.decreases-loop-left
decreases-loop-left l = length l.left
