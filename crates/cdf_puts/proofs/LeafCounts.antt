-- What a leaf more makes of the nodes, the Firsts and the leaves of an index, and of how wide its nodes are and which room they have.
use Rattle.cdf_puts.proofs.Common.{entries_below, entries_in, entry_count, Bool, Each, Each-split, Entries, Grows, HasNodes, In, InOrder, IsOneOf, Leaf, List, Names, NodeFits, Nodes, [], ap, append_assoc, arith, block, by_leaf, entry_firsts, false, filter, firsts_of, fold, if◌then◌else◌, inl, inr, le-ltb, leaves_more, leaves_of, lower, lower_nodes, max, min, nat_lt, next_first, no_entry, no_node, node, nodes_of, places_of, record_number_limit, room_at, suc, sym, times, times-append, weigh, weigh_below, weight_grows, widest, widest_below, with_both, with_leaf, with_new, zero, ℕ, ◌+◌, ◌==◌, ◌∷◌, ◌≡◌, ◌≤◌, ◌⊎◌, ◌&&◌, nat_tests, In-append, append-nil, leaf, firsts_both, new_room}
use Rattle.std.proofs.lemmas.List.Elements.{filter-append}
use Rattle.cdf_index.proofs.Measured.{seven_at_least}
use Rattle.cdf_index.proofs.Saying.{count_both}

-- ---- a node keeps its room

-- 1 for this node with this room
abbrev pub with_room : ℕ → ℕ → ℕ → ℕ → ℕ
with_room m r place room = if (place == m) && (room == r) then 1 else 0

-- a node stands in an index with the room that an image says of it, and with no other
mutual
  unfolding weigh weigh_below HasNodes Names nodes_of lower_nodes

  rooms_in : (b records : List ℕ) (m r levels : ℕ) (nodes : Nodes) → HasNodes b records levels nodes → (In m (nodes_of nodes) → 1 ≤ weigh (with_room m (room_at b m)) nodes) × (1 ≤ weigh (with_room m r) nodes → room_at b m ≡ r)
  rooms_in b records m r levels no_node h = grind arith
  rooms_in b records m r zero (node place room es more) h = absurd h
  rooms_in b records m r (suc levels) (node place room es more) h = grind (arith, nat_tests, In-append m (lower_nodes es) (nodes_of more), h.0.room_is, rooms_below b records m r levels es h.1, rooms_in b records m r (suc levels) more h.2)

  rooms_below : (b records : List ℕ) (m r levels : ℕ) (es : Entries) → Names b records levels es → (In m (lower_nodes es) → 1 ≤ weigh_below (with_room m (room_at b m)) es) × (1 ≤ weigh_below (with_room m r) es → room_at b m ≡ r)
  rooms_below b records m r levels no_entry h = grind arith
  rooms_below b records m r levels (block first last place packed es) h = rooms_below b records m r levels es h.2
  rooms_below b records m r levels (lower first last nodes es) h = grind (arith, In-append m (nodes_of nodes) (lower_nodes es), rooms_in b records m r levels nodes h.1, rooms_below b records m r levels es h.2)

-- the room that it says in each of two images
pub room_stays : (b now records records' : List ℕ) (levels levels' : ℕ) (new : Leaf) (at m : ℕ) (index : Nodes) → HasNodes b records levels index → HasNodes now records' levels' (with_leaf new at index) → In m (nodes_of index) → room_at now m ≡ room_at b m
room_stays b now records records' levels levels' new at m index h h' i =
    let some = (rooms_in b records m 0 levels index h).0 i in
    (rooms_in now records' m (room_at b m) levels' (with_leaf new at index) h').1 (omega (arith, by_leaf (weight_grows (with_room m (room_at b m)) new at) index))

-- ---- the Firsts, and the least of them past a record

-- those that pass a test stay, where the new one does not pass it
pub firsts_grow : (new : Leaf) (at : ℕ) (p : ℕ → Bool) → p new.first ≡ false → Grows new at (λ n a a'. filter p (firsts_of a') ≡ filter p (firsts_of a)) (λ n es es'. filter p (entry_firsts es') ≡ filter p (entry_firsts es))
unfolding firsts_of entry_firsts
firsts_grow new at p out = grind (arith, filter-append, firsts_both, append_assoc, append-nil, out)

pub next_firsts_with_leaf : (new : Leaf) (at : ℕ) (index : Nodes) (n : ℕ) → new.first ≤ n → next_first n (firsts_of (with_leaf new at index)) ≡ next_first n (firsts_of index)
next_firsts_with_leaf new at index n le = ap (fold min (record_number_limit + 1)) (by_leaf (firsts_grow new at (nat_lt n) (le-ltb n new.first le)) index)

-- ---- the leaves; the index is in order

pub places_new : (m : ℕ) (l : Leaf) (xs : List Leaf) → times m (places_of (with_new l xs)) ≡ times m (places_of xs) + times m (l.place ∷ [])
places_new m l [] = omega arith
places_new m l (x ∷ xs) = grind (arith, times-append m (l.place ∷ []) (places_of (x ∷ xs)), times-append m (x.place ∷ []) (places_of xs), times-append m (x.place ∷ []) (places_of (with_new l xs)), places_new m l xs)

pub one_new : (l x : Leaf) (xs : List Leaf) → (IsOneOf (with_new l xs) x → (x ≡ l) ⊎ IsOneOf xs x) × ((x ≡ l) ⊎ IsOneOf xs x → IsOneOf (with_new l xs) x)
one_new l x [] = (λ i. elim i [ inl e ↦ inl (sym e) | inr j ↦ absurd j ], λ i. grind (arith, i))
one_new l x (y ∷ ys) = (λ i. grind (arith, i, (one_new l x ys).0), λ i. grind (arith, i, (one_new l x ys).1))

pub one_of_leaves : (new : Leaf) (at low high : ℕ) (index : Nodes) → InOrder low high index → (l : Leaf) → (IsOneOf (leaves_of (with_leaf new at index)) l → (l ≡ new) ⊎ IsOneOf (leaves_of index) l) × ((l ≡ new) ⊎ IsOneOf (leaves_of index) l → IsOneOf (leaves_of (with_leaf new at index)) l)
one_of_leaves new at low high index o l = rw (leaves_more new at low high index o) (one_new new l (leaves_of index))

-- ---- how wide the nodes are

pub seven_below : (es : Entries) → 7 ≤ widest_below es
unfolding widest_below
seven_below no_entry = omega arith
seven_below (block first last place packed es) = seven_below es
seven_below (lower first last nodes es) = omega (arith, seven_below es)

pub widest_both : (es fs : Entries) → widest_below (with_both es fs) ≡ max (widest_below es) (widest_below fs)
unfolding widest_below
widest_both no_entry fs = omega (arith, seven_below fs)
widest_both (block first last place packed es) fs = widest_both es fs
widest_both (lower first last nodes es) fs = omega (arith, widest_both es fs)

-- and by then none is wider than that, or than they were
pub wide_grows : (new : Leaf) (at : ℕ) → Grows new at (λ n a a'. widest a' ≤ max (widest a) n) (λ n es es'. widest_below es' ≤ max (widest_below es) n)
unfolding widest widest_below
wide_grows new at = grind (arith, widest_both, seven_at_least)

-- a new node has no more entries than the widest, in each image that is sound
pub room_grows : (b records : List ℕ) (new : Leaf) (at : ℕ)
    → Grows new at (λ n a a'. (levels : ℕ) → HasNodes b records levels a → Each (NodeFits b) (nodes_of a) → n ≤ widest a) (λ n es es'. (levels : ℕ) → Names b records levels es → Each (NodeFits b) (lower_nodes es) → n ≤ widest_below es)
unfolding widest widest_below HasNodes Names nodes_of lower_nodes
room_grows b records new at = grind (arith, nat_tests, Each-split (NodeFits b), count_both, seven_at_least)

pub new_room_widest : (b records : List ℕ) (levels f : ℕ) (index : Nodes) → HasNodes b records levels index → Each (NodeFits b) (nodes_of index) → new_room f index ≤ widest index
new_room_widest b records levels f index h fit = by_leaf (room_grows b records (leaf f 0 0 false) 0) index levels h fit

-- ---- how many entries are used

pub below_both : (es fs : Entries) → entries_below (with_both es fs) ≡ entries_below es + entries_below fs
unfolding entries_below
below_both no_entry fs = omega arith
below_both (block first last place packed es) fs = below_both es fs
below_both (lower first last nodes es) fs = omega (arith, below_both es fs)

-- by then they are one more at most
pub entries_grow : (new : Leaf) (at : ℕ) → Grows new at (λ n a a'. entries_in a' ≤ suc (entries_in a)) (λ n es es'. entry_count es' + entries_below es' ≤ suc (entry_count es + entries_below es))
unfolding entries_in entries_below
entries_grow new at = grind (arith, count_both, below_both)
