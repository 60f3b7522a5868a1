use Rattle.cdf_puts.proofs.Common.{◌∙◌, starts_at, IfOk-weaker}
use Rattle.cdf_puts.proofs.searching.Search.leaf.Goals as goal

pub find_counted-requires-clause-index : goal.find_counted-requires-clause-index
find_counted-requires-clause-index g c = let s = c.requires.search in (starts_at s.index s.start).has

pub returns-clause-value : goal.returns-clause-value
returns-clause-value g c = let s = c.requires.search in IfOk-weaker c.find_counted.result _ _ (λ x e. e ∙ (starts_at s.index s.start).leaf_is) c.find_counted.ensures.value
