use Rattle.std.proofs.Common.{rules, ℕ}
use Rattle.std.proofs.lemmas.List.Sorted.{IsNonDecreasingBy-from_sort, answers_always}
use Rattle.cdf_attrs.proofs.entry_order.EntryOrder.of.Goals as goal

pub returns-clause-rise : goal.returns-clause-rise
returns-clause-rise c = IsNonDecreasingBy-from_sort (λ (e : ℕ × ℕ). e.0) _ (c.sort_unstable_by_key.ensures.sorted (λ (e : ℕ × ℕ). e.0) (answers_always _ _ _ (λ f a r g h. search rules)))
