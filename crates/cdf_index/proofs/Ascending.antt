-- The entries of each node of an index ascend.
use Rattle.cdf_index.proofs.Common.{AreInOrder, Each, Each-append, Each-split, Entries, HasIndex, HasNodes, InOrder, IsOrderly, List, Names, NodeFits, Nodes, SayEntries, Stands, arith, block, cases_lt, entry_count, first_at, has, index_at, last_at, lower, lower_nodes, no_entry, nodes_of, record_number_limit, suc, tiles, used_count, ℕ, ◌+◌, ◌<◌, ◌≡◌, ◌≤◌}
use Rattle.cdf_index.proofs.ByParts.{nodes_by}

module _ (b : List ℕ) (at high : ℕ) where
  -- an entry begins and ends at the next one's First and Last or before them
  ascend : (k low i : ℕ) (es : Entries) → SayEntries b at k es → AreInOrder low high es → k ≤ i → i < k + entry_count es
      → (low ≤ first_at b at i) × (first_at b at i ≤ last_at b at i) × (i + 1 < k + entry_count es → (first_at b at i ≤ first_at b at (i + 1)) × (last_at b at i ≤ last_at b at (i + 1)))
  unfolding AreInOrder
  ascend k low i no_entry s o le lt = absurd (omega arith)
  ascend k low i (block first last place packed es) s o le lt = grind (arith, cases_lt k i, s.0.first_is, s.0.last_is, o.0, o.1, ascend (suc k) (suc last) i es s.1 o.3, ascend (suc k) (suc last) (i + 1) es s.1 o.3)
  ascend k low i (lower first last nodes es) s o le lt = grind (arith, cases_lt k i, s.0.first_is, s.0.last_is, o.0, o.1, ascend (suc k) (suc last) i es s.1 o.4, ascend (suc k) (suc last) (i + 1) es s.1 o.4)

  orderly : (low : ℕ) (es : Entries) → used_count b at ≡ entry_count es → SayEntries b at 0 es → AreInOrder low high es → NodeFits b at → IsOrderly b at
  orderly low es u s o f = record { fits = f; firsts = λ i lt. ((ascend 0 low i es s o (omega arith) (omega arith)).2 (omega arith)).0; lasts = λ i lt. ((ascend 0 low i es s o (omega arith) (omega arith)).2 (omega arith)).1 }

all_orderly : (b : List ℕ) (nodes : Nodes) (levels low high : ℕ) → HasNodes b (tiles b) levels nodes → InOrder low high nodes → Each (NodeFits b) (nodes_of nodes) → Each (IsOrderly b) (nodes_of nodes)
unfolding HasNodes Names InOrder AreInOrder nodes_of lower_nodes
all_orderly b =
    nodes_by (λ es. (levels low high : ℕ) → Names b (tiles b) levels es → AreInOrder low high es → Each (NodeFits b) (lower_nodes es) → Each (IsOrderly b) (lower_nodes es))
    (grind (arith, Each-split (NodeFits b), Each-append (IsOrderly b), orderly))

-- the nodes of an index stand
pub index_stands : (b : List ℕ) (head : ℕ) → HasIndex b head → Stands b 8 (index_at b head)
index_stands b head has = record { has = has.index.has_nodes; orderly = all_orderly b (index_at b head) 8 0 record_number_limit has.index.has_nodes has.order has.fits; blocks = has.blocks }
