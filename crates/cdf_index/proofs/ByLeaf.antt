-- What a leaf more makes of an index, step by step on the way to it, and how often a node stands in it by then.
use Rattle.cdf_index.proofs.Common.{Bool, Entries, In, Leaf, Nodes, [], arith, block, entry_count, if◌then◌else◌, in-times, lower, lower_nodes, max, nat_tests, new_room, new_room_below, no_entry, no_node, node, nodes_of, past, room_of_new, times, times-append, times-in, with_block, with_both, with_entry, with_leaf, with_lower, ℕ, ◌+◌, ◌==◌, ◌∷◌, ◌≡◌, ◌≤◌, ◌⊎◌}
use Rattle.cdf_index.proofs.Saying.{upto_both, front_past, upto_is}
use Rattle.cdf_index.proofs.ByParts.{entries_by, nodes_by}

-- ---- the steps to a leaf more

-- What holds of chains (P) and of the entries of a node (Q), of both before and after, where each step to the leaf keeps it; the number is how many entries the new node has room for, or 0.
pub record Grows (new : Leaf) (at : ℕ) (P : ℕ → Nodes → Nodes → Type 0) (Q : ℕ → Entries → Entries → Type 0) : Type 0 where
  pub along : (n place room : ℕ) (es : Entries) (more more' : Nodes) → P n more more' → P n (node place room es more) (node place room es more')
  pub down : (n place room : ℕ) (es es' : Entries) (more : Nodes) → Q n es es' → P n (node place room es more) (node place room es' more)
  pub none : Q 0 no_entry no_entry
  pub past_block : (n first last place : ℕ) (packed : Bool) (es es' : Entries) → Q n es es' → Q n (block first last place packed es) (block first last place packed es')
  pub past_lower : (n first last : ℕ) (nodes : Nodes) (es es' : Entries) → Q n es es' → Q n (lower first last nodes es) (lower first last nodes es')
  pub below : (n first last : ℕ) (nodes nodes' : Nodes) (es : Entries) → P n nodes nodes' → Q n (lower first last nodes es) (lower first (max last new.last) nodes' es)
  pub alone : P 7 no_node (node at 7 (with_block new no_entry) no_node)
  pub fits : (place room : ℕ) (es fs : Entries) (more : Nodes) → P 0 (node place room (with_both es fs) more) (node place room (with_both es (with_block new fs)) more)
  pub behind : (place room : ℕ) (es : Entries) (more : Nodes) → P 7 (node place room es more) (node place room es (node at 7 (with_block new no_entry) more))
  pub split : (n place room : ℕ) (es fs : Entries) (more : Nodes) → n ≡ max 7 (entry_count fs) → P n (node place room (with_both es fs) more) (node place room (with_both es (with_block new no_entry)) (node at n fs more))

module _ {new : Leaf} {at : ℕ} {P : ℕ → Nodes → Nodes → Type 0} {Q : ℕ → Entries → Entries → Type 0} (g : Grows new at P Q) where
  by_entry : (place room : ℕ) (es : Entries) (more : Nodes) → P (room_of_new new.first room es) (node place room es more) (with_entry new at place room es more)
  by_entry place room es more = grind (arith, nat_tests, g, front_past new.first es, upto_both new es (past new.first es), upto_is new es)

  pub by_leaf : (index : Nodes) → P (new_room new.first index) index (with_leaf new at index)
  unfolding with_leaf with_lower new_room new_room_below
  by_leaf = nodes_by (λ es. Q (new_room_below new.first es) es (with_lower new at es)) (grind (arith, nat_tests, g, by_entry))

-- ---- numbers of the nodes, added up

unfoldable mutual
  pub weigh : (ℕ → ℕ → ℕ) → Nodes → ℕ
  weigh w no_node = 0
  weigh w (node place room es more) = w place room + (weigh_below w es + weigh w more)

  pub weigh_below : (ℕ → ℕ → ℕ) → Entries → ℕ
  weigh_below w no_entry = 0
  weigh_below w (block first last place packed es) = weigh_below w es
  weigh_below w (lower first last nodes es) = weigh w nodes + weigh_below w es

abbrev weight_of : (ℕ → ℕ → ℕ) → ℕ → ℕ → ℕ
weight_of w at n = if n == 0 then 0 else w at n

weigh_both : (w : ℕ → ℕ → ℕ) (es fs : Entries) → weigh_below w (with_both es fs) ≡ weigh_below w es + weigh_below w fs
unfolding weigh_below
weigh_both w = entries_by (grind arith)

pub weight_grows : (w : ℕ → ℕ → ℕ) (new : Leaf) (at : ℕ) → Grows new at (λ n a a'. weigh w a' ≡ weigh w a + weight_of w at n) (λ n es es'. weigh_below w es' ≡ weigh_below w es + weight_of w at n)
unfolding weigh weigh_below
weight_grows w new at = grind (arith, weigh_both)

-- ---- how often a place stands among the nodes

nodes_weighed : (m : ℕ) (nodes : Nodes) → times m (nodes_of nodes) ≡ weigh (λ p r. times m (p ∷ [])) nodes
unfolding weigh weigh_below nodes_of lower_nodes
nodes_weighed m = nodes_by (λ es. times m (lower_nodes es) ≡ weigh_below (λ p r. times m (p ∷ [])) es) (grind (arith, times-append))

-- the new node stands once more, where one is needed
pub nodes_with_leaf : (new : Leaf) (at m : ℕ) (index : Nodes) → times m (nodes_of (with_leaf new at index)) ≡ times m (nodes_of index) + (if new_room new.first index == 0 then 0 else times m (at ∷ []))
nodes_with_leaf new at m index = rw (nodes_weighed m (with_leaf new at index), nodes_weighed m index) (by_leaf (weight_grows (λ p r. times m (p ∷ [])) new at) index)

-- a node more stands at `at` alone, and only where one is needed
pub in_nodes_with_leaf : (new : Leaf) (at : ℕ) (index : Nodes) (m : ℕ) → In m (nodes_of (with_leaf new at index)) → In m (nodes_of index) ⊎ ((m ≡ at) × (1 ≤ new_room new.first index))
in_nodes_with_leaf new at index m i = grind (arith, nat_tests, in-times m (nodes_of index), times-in m (nodes_of (with_leaf new at index)) i, nodes_with_leaf new at m index)

-- each node of the index stays
pub node_stays : (new : Leaf) (at : ℕ) (index : Nodes) (m : ℕ) → In m (nodes_of index) → In m (nodes_of (with_leaf new at index))
node_stays new at index m i = in-times m (nodes_of (with_leaf new at index)) (omega (arith, times-in m (nodes_of index) i, nodes_with_leaf new at m index))
