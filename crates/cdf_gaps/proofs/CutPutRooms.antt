-- What an index keeps as leaves are added to it: each of its nodes has the room that it had, an entry that a node uses is used in the index, and this is an index that a put goes through.
use Rattle.cdf_edits.proofs.Common.{[], Bool, Entries, In, In-append, List, Names, Nodes, HasNodes, Range, arith, block, false, list_any, lower, lower_nodes, nat_tests, no_entry, no_node, node, nodes_of, refl, room_at, suc, true, used_count, zero, ℕ, ◌<◌, ◌≡◌, ◌≤◌, subst, ◌∷◌}
use Rattle.cdf_edits.specs.Index.Grown.{entries_outline, with_leaf, with_ranges}
use Rattle.cdf_format.specs.Index.{leaf}
unfoldable use Rattle.cdf_edits.specs.Index.Grown.{indexes_with, outline}
unfoldable use Rattle.cdf_edits.specs.Index.Written.{uses_entry, uses_entry_below}
use Rattle.cdf_index.proofs.ByLeaf.{by_leaf, weight_grows}
unfoldable use Rattle.cdf_index.proofs.ByLeaf.{weigh, weigh_below}
use Rattle.cdf_puts.proofs.LeafCounts.{with_room}

-- ---- rooms

module _ (m r : ℕ) (some : m ≡ 0 → ⊥) where
  abbrev w : ℕ → ℕ → ℕ
  w = with_room m r

  zero_weight : (room : ℕ) → w 0 room ≡ 0
  zero_weight room = grind (arith, nat_tests, some)

  -- where no node is new, an outline has each node that the index has; and an outline has no other node but at 0
  mutual
    unfolding weigh weigh_below outline

    outline_has : (ns : Nodes) → weigh w (outline [] ns) ≡ weigh w ns
    outline_has no_node = refl
    outline_has (node place room es more) = grind (arith, entries_have es, outline_has more)

    entries_have : (es : Entries) → weigh_below w (entries_outline [] es) ≡ weigh_below w es
    entries_have no_entry = refl
    entries_have (block first last place packed es) = entries_have es
    entries_have (lower first last nodes es) = grind (arith, outline_has nodes, entries_have es)

  mutual
    unfolding weigh weigh_below outline

    outline_less : (news : List ℕ) (ns : Nodes) → weigh w (outline news ns) ≤ weigh w ns
    outline_less news no_node = omega arith
    outline_less news (node place room es more) = grind (arith, zero_weight room, entries_less news es, outline_less news more)

    entries_less : (news : List ℕ) (es : Entries) → weigh_below w (entries_outline news es) ≤ weigh_below w es
    entries_less news no_entry = omega arith
    entries_less news (block first last place packed es) = entries_less news es
    entries_less news (lower first last nodes es) = omega (arith, outline_less news nodes, entries_less news es)

  -- each node stays as leaves are added
  ranges_keep : (rs : List Range) (index : Nodes) → weigh w index ≤ weigh w (with_ranges index rs)
  ranges_keep [] index = omega arith
  ranges_keep (x ∷ rs) index =
      let more = ranges_keep rs (with_leaf (leaf x.first x.last 0 false) 0 index) in
      let one = by_leaf (weight_grows w (leaf x.first x.last 0 false) 0) index in
      omega arith

-- a node stands in an index with the room that an image says of it, and with no other room
mutual
  unfolding weigh weigh_below HasNodes Names nodes_of lower_nodes

  rooms_in : (b records : List ℕ) (m r levels : ℕ) (nodes : Nodes) → HasNodes b records levels nodes → (In m (nodes_of nodes) → 1 ≤ weigh (with_room m (room_at b m)) nodes) × (1 ≤ weigh (with_room m r) nodes → room_at b m ≡ r)
  rooms_in b records m r levels no_node h = grind arith
  rooms_in b records m r zero (node place room es more) h = absurd h
  rooms_in b records m r (suc levels) (node place room es more) h = grind (arith, nat_tests, In-append m (lower_nodes es) (nodes_of more), h.0.room_is, rooms_below b records m r levels es h.1, rooms_in b records m r (suc levels) more h.2)

  rooms_below : (b records : List ℕ) (m r levels : ℕ) (es : Entries) → Names b records levels es → (In m (lower_nodes es) → 1 ≤ weigh_below (with_room m (room_at b m)) es) × (1 ≤ weigh_below (with_room m r) es → room_at b m ≡ r)
  rooms_below b records m r levels no_entry h = grind arith
  rooms_below b records m r levels (block first last place packed es) h = rooms_below b records m r levels es h.2
  rooms_below b records m r levels (lower first last nodes es) h = grind (arith, In-append m (nodes_of nodes) (lower_nodes es), rooms_in b records m r levels nodes h.1, rooms_below b records m r levels es h.2)

-- the room of a node of an index that is another by now, but for where its blocks and its new nodes stand
pub room_kept : (mid last records records' : List ℕ) (levels levels' : ℕ) (news : List ℕ) (rs : List Range) (index index' : Nodes) → HasNodes mid records levels index → HasNodes last records' levels' index' → outline news index' ≡ outline [] (with_ranges index rs)
    → (m : ℕ) → (m ≡ 0 → ⊥) → In m (nodes_of index) → room_at last m ≡ room_at mid m
room_kept mid last records records' levels levels' news rs index index' h h' same m some i =
    let r = room_at mid m in
    let was = (rooms_in mid records m 0 levels index h).0 i in
    let more = ranges_keep m r some rs index in
    let is = outline_has m r some (with_ranges index rs) in
    let less = subst (λ (x : Nodes). weigh (with_room m r) x ≤ weigh (with_room m r) index') same (outline_less m r some news index') in
    (rooms_in last records' m r levels' index' h').1 (omega arith)

-- ---- an entry that a node uses is used in the index

module _ (b records : List ℕ) (vxr i : ℕ) (used : i < used_count b vxr) where
  mutual
    unfolding HasNodes Names nodes_of lower_nodes uses_entry uses_entry_below

    pub used_in : (levels : ℕ) (index : Nodes) → HasNodes b records levels index → In vxr (nodes_of index) → uses_entry vxr i index ≡ true
    used_in levels no_node h m = absurd m
    used_in zero (node place room es more) h m = absurd h
    used_in (suc levels) (node place room es more) h m = grind (arith, nat_tests, m, h.0.used_is, In-append vxr (lower_nodes es) (nodes_of more), used_below levels es h.1, used_in (suc levels) more h.2)

    used_below : (levels : ℕ) (es : Entries) → Names b records levels es → In vxr (lower_nodes es) → uses_entry_below vxr i es ≡ true
    used_below levels no_entry n m = absurd m
    used_below levels (block first last place packed es) n m = used_below levels es n.2 m
    used_below levels (lower first last nodes es) n m = grind (arith, In-append vxr (nodes_of nodes) (lower_nodes es) m, used_in levels nodes n.1, used_below levels es n.2)

-- what holds of an index holds of an index that is gone through from there on
pub through_first : (P : Nodes → Bool) (index : Nodes) (rs : List Range) → P index ≡ true → list_any P (indexes_with index rs) ≡ true
unfolding indexes_with
through_first P index [] e = rw e refl
through_first P index (r ∷ rs) e = rw e refl
