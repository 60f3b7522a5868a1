use Rattle.cdf_puts.proofs.Common.{◌∙◌, starts_at, IfOk-weaker}
use Rattle.cdf_puts.proofs.searching.Search.next_first.Goals as goal

pub next_counted-requires-clause-index : goal.next_counted-requires-clause-index
next_counted-requires-clause-index g c = let s = c.requires.search in (starts_at s.index s.start).has

pub returns-clause-value : goal.returns-clause-value
returns-clause-value g c = let s = c.requires.search in IfOk-weaker c.next_counted.result _ _ (λ x e. e ∙ (starts_at s.index s.start).next_is) c.next_counted.ensures.value
