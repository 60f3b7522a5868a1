use Rattle.std.proofs.Common.{◌≡◌, [], ◌++◌, length, map}
use Rattle.cdf_script.proofs.arguments.Arguments.values.Given as goal

abbrev pub invariant-loop-self : goal.invariant-loop-self
invariant-loop-self l = record {
  so_far : map (λ word. word.bytes) l.fn.self ≡ l.values.words ++ map (λ word. word.bytes) l.self;
  ended : l.values.last ≡ [];
}

abbrev pub decreases-loop-self : goal.decreases-loop-self
decreases-loop-self l = length l.self
