-- An index with a leaf more keeps the rules: its entries are in order, its nodes have room for theirs, and each leaf has a block.
use Rattle.cdf_index.proofs.Common.{hold_all, each_of, has_room, index_rows, min, append_assoc, ◌++◌, AreInOrder, Each, Each-split, Entries, Hold, Hold-append, Hold-split, In, InOrder, IsOneOf, Leaf, List, Nodes, None, [], arith, before_is, before_number, block, chain_reaches, covers, end_of, entry_firsts, entry_leaves, false, filter, find, firsts_of, flat_map, fold, is_between, is_block, leads_down, leaf_rows, leaves_of, lower, lower_nodes, max, nat_lt, nat_tests, negsuc, next_first, no_entry, no_node, node, nodes_of, nodes_rows, past, past_entries, pos, range, reaches, record_number_limit, refl, signed, suc, true, used_rows, with_both, with_entry, with_leaf, ℕ, ◌+◌, ◌<◌, ◌∷◌, ◌≡◌, ◌≤◌}
use Rattle.cdf_edits.proofs.Space.ActsLeave.{each as each_place}
use Rattle.cdf_index.proofs.GoodIndex.{order_from}
use Rattle.cdf_index.proofs.ByParts.{entries_by, entries_from, entries_within}
use Rattle.cdf_index.proofs.Coming.{Comes, comes, comes_along, comes_below, comes_first, comes_here, chain_reaches_from}
use Rattle.cdf_index.proofs.LeafMore.{leaves_both, none_reached, parts_in_order}
use Rattle.cdf_index.proofs.OrderLemmas.{end_after}
use Rattle.cdf_index.proofs.Saying.{front, front_past, upto_both, upto_is, no_entries}

-- ---- what a leaf may be added to

-- no leaf has the record, and no entry begins past it up to a last one
abbrev Misses : ℕ → Leaf → Type 0
Misses f x = x.first ≤ f → x.last < f

abbrev pub Uncovered : ℕ → List Leaf → Type 0
Uncovered f xs = Each (Misses f) xs

abbrev BeginsBehind : ℕ → ℕ → ℕ → Type 0
BeginsBehind f last x = f < x → last < x

abbrev pub NoneBegins : ℕ → ℕ → List ℕ → Type 0
NoneBegins f last xs = Each (BeginsBehind f last) xs

pub uncovered_by : (f : ℕ) (xs : List Leaf) → find (λ (leaf : Leaf). covers f (range leaf.first leaf.last)) xs ≡ None → Uncovered f xs
uncovered_by f [] e = tt
uncovered_by f (x ∷ xs) e = grind (arith, nat_tests, uncovered_by f xs)

pub least_below : (best : ℕ) (xs : List ℕ) → fold min best xs ≤ best
least_below best [] = omega arith
least_below best (x ∷ xs) = omega (arith, least_below (min best x) xs)

none_before : (f last best : ℕ) (xs : List ℕ) → last < fold min best (filter (nat_lt f) xs) → NoneBegins f last xs
none_before f last best [] h = tt
none_before f last best (x ∷ xs) h = grind (arith, nat_tests, least_below (min best x) (filter (nat_lt f) xs), none_before f last (min best x) xs, none_before f last best xs)

pub none_begins : (f last : ℕ) (firsts : List ℕ) → last < next_first f firsts → NoneBegins f last firsts
none_begins f last firsts h = none_before f last (record_number_limit + 1) firsts h

pub before_limit : (f last : ℕ) (firsts : List ℕ) → last < next_first f firsts → last ≤ record_number_limit
before_limit f last firsts h = let r = least_below (record_number_limit + 1) (filter (nat_lt f) firsts) in omega arith

-- ---- entries that go on from another number, and up to one that is higher

past_most : (low low' : ℕ) (es : Entries) → past_entries low' es ≤ max (past_entries low es) low'
past_most low low' = entries_by (grind arith)

past_both : (low : ℕ) (es fs : Entries) → past_entries low (with_both es fs) ≡ past_entries (past_entries low es) fs
past_both = entries_from (grind arith)

widened_entries : (low low' high high' : ℕ) (es : Entries) → low' ≤ low → high ≤ high' → AreInOrder low high es → AreInOrder low' high' es
unfolding AreInOrder
widened_entries low low' high high' es k l = entries_by {Q = λ es. (low low' : ℕ) → low' ≤ low → AreInOrder low high es → AreInOrder low' high' es} (grind arith) es low low' k

pub widened : (low low' high high' : ℕ) (ns : Nodes) → low' ≤ low → high ≤ high' → InOrder low high ns → InOrder low' high' ns
unfolding InOrder
widened low low' high high' no_node k l o = tt
widened low low' high high' (node place room es more) k l o = grind (arith, widened_entries low low' high high' es, widened (past_entries low es) (past_entries low' es) high high' more, past_most low low' es, end_after low high es)

-- those that begin past a record also begin past the last one of a leaf
pub raised_entries : (f last low low' high : ℕ) (es : Entries) → AreInOrder low high es → reaches f es ≡ false → NoneBegins f last (entry_firsts es) → low' ≤ max low (suc last) → AreInOrder low' high es
unfolding AreInOrder entry_firsts
raised_entries f last low low' high = entries_by (grind (arith, nat_tests))

pub raised : (f last low low' high : ℕ) (ns : Nodes) → InOrder low high ns → chain_reaches f ns ≡ false → NoneBegins f last (firsts_of ns) → low' ≤ max low (suc last) → InOrder low' high ns
unfolding InOrder firsts_of
raised f last low low' high no_node o r n l = tt
raised f last low low' high (node place room es more) o r n l =
    let s = Each-split (BeginsBehind f last) (entry_firsts es) (firsts_of more) n in
    grind (arith, nat_tests, raised_entries f last low low' high es, raised f last (past_entries low es) (past_entries low' es) high more, past_most low low' es, end_after low high es)

-- ---- the entries of a node that begin at a record or before it, and the others

both_in_order : (low high : ℕ) (es fs : Entries) → AreInOrder low high es → AreInOrder (past_entries low es) high fs → AreInOrder low high (with_both es fs)
unfolding AreInOrder
both_in_order = entries_within (grind arith)

-- where the last of them names a block, they end before the record
front_ends : (f low high : ℕ) (es : Entries) → AreInOrder low high es → Uncovered f (entry_leaves es)
    → (leads_down f false es ≡ false → low ≤ f → past_entries low (front f es) ≤ f) × (leads_down f true es ≡ false → past_entries low (front f es) ≤ f)
unfolding AreInOrder entry_leaves
front_ends f = entries_within (grind (arith, nat_tests, Each-split (Misses f)))

pub firsts_both : (es fs : Entries) → entry_firsts (with_both es fs) ≡ entry_firsts es ++ entry_firsts fs
unfolding entry_firsts
firsts_both = entries_by (grind (arith, append_assoc))

order_with_entry : (new : Leaf) (at place room low high : ℕ) (es : Entries) (more : Nodes) → InOrder low high (node place room es more) → leads_down new.first false es ≡ false → chain_reaches new.first more ≡ false
    → low ≤ new.first → new.first ≤ new.last → new.last ≤ high → Uncovered new.first (entry_leaves es) → NoneBegins new.first new.last (entry_firsts es) → NoneBegins new.first new.last (firsts_of more) → InOrder low high (with_entry new at place room es more)
unfolding InOrder AreInOrder
order_with_entry new at place room low high es more o d c l k h u n n' =
    let f = new.first in
    let fr = front f es in
    let bk = past f es in
    let first = Each-split (BeginsBehind f new.last) (entry_firsts fr) (entry_firsts bk) (rw (← firsts_both fr bk, front_past f es) n) in
    let raise = raised_entries f new.last (past_entries low fr) (suc new.last) high bk in
    let along = raised f new.last (past_entries low es) (past_entries (suc new.last) bk) high more in
    grind (arith, nat_tests, front_past f es, parts_in_order low high fr bk, front_ends f low high es, none_reached, past_most, upto_both, upto_is, both_in_order, past_both, no_entries)

-- ---- the index

order_come : {new : Leaf} {at : ℕ} {w : List (ℕ × ℕ)} {x n : ℕ} {ns ns' : Nodes} → Comes new at w x n ns ns' → (low high : ℕ) → InOrder low high ns → low ≤ new.first → new.first ≤ new.last → new.last ≤ high → Uncovered new.first (leaves_of ns) → NoneBegins new.first new.last (firsts_of ns) → InOrder low high ns'
unfolding InOrder AreInOrder leaves_of entry_leaves firsts_of entry_firsts
order_come comes_first low high o l k h u n = ((l, k, h, tt), tt)
order_come {new = new} (comes_along {es = es} {more = more} t c) low high o l k h u n =
    grind (arith, nat_tests, Each-split (Misses new.first) (entry_leaves es) (leaves_of more), Each-split (BeginsBehind new.first new.last) (entry_firsts es) (firsts_of more), order_come c (past_entries low es) high, chain_reaches_from new.first (past_entries low es) high more)
order_come {new = new} (comes_below {more = more} fs first last nodes nodes' es t le r c) low high o l k h u n =
    let wide = max last new.last in
    let old = lower first last nodes es in
    let here = lower first wide nodes' es in
    let raise = raised_entries new.first new.last (suc last) (suc wide) high es in
    let along = raised new.first new.last (past_entries low (with_both fs old)) (past_entries low (with_both fs here)) high more in
    grind (arith, Each-split (Misses new.first), Each-split (BeginsBehind new.first new.last), leaves_both fs old, firsts_both fs old, parts_in_order low high fs old, widened first first last wide nodes, order_come c first wide, past_both, both_in_order, past_most, end_after)
order_come {new = new} {at = at} (comes_here {place = place} {room = room} {es = es} {more = more} t d) low high o l k h u n =
    grind (arith, Each-split (Misses new.first), Each-split (BeginsBehind new.first new.last), order_with_entry new at place room low high es more o d t l k h)

pub order_with_leaf : (new : Leaf) (at : ℕ) (index : Nodes) → InOrder 0 record_number_limit index → new.first ≤ new.last → find (λ (leaf : Leaf). covers new.first (range leaf.first leaf.last)) (leaves_of index) ≡ None → new.last < next_first new.first (firsts_of index)
    → InOrder 0 record_number_limit (with_leaf new at index)
order_with_leaf new at index o k u n =
    order_come (comes new at 0 record_number_limit index o) 0 record_number_limit o (omega arith) k (before_limit new.first new.last (firsts_of index) n) (uncovered_by new.first (leaves_of index) u) (none_begins new.first new.last (firsts_of index) n)

-- ---- from the order to the rules

between_by : (low high first last : ℕ) → high ≤ record_number_limit → low ≤ first → first ≤ last → last ≤ high → is_between (before_number low) (pos high) first last ≡ true
between_by low high first last m l k h = rw (signed first (omega arith), signed last (omega arith)) (grind (arith, nat_tests))

module _ (b records : List ℕ) where
  abbrev HasRoom : ℕ → Type 0
  HasRoom m = has_room b m ≡ true

  abbrev HasBlock : Leaf → Type 0
  HasBlock l = is_block b records l.place ≡ true

  mutual
    unfolding nodes_rows used_rows InOrder AreInOrder nodes_of lower_nodes leaves_of entry_leaves

    rules_from : (low high : ℕ) (nodes : Nodes) → high ≤ record_number_limit → InOrder low high nodes → Each HasRoom (nodes_of nodes) → Each HasBlock (leaves_of nodes) → Hold (nodes_rows b records (before_number low) (pos high) nodes)
    rules_from low high no_node m o room is = tt
    rules_from low high (node place wide entries more) m o room is =
        let rooms = Each-split HasRoom (lower_nodes entries) (nodes_of more) room.1 in
        let blocks = Each-split HasBlock (entry_leaves entries) (leaves_of more) is in
        grind (arith, Hold-append, entries_rules_from place low high entries m o.0 rooms.0 blocks.0, rules_from (past_entries low entries) high more m o.1 rooms.1 blocks.1)

    entries_rules_from : (vxr low high : ℕ) (entries : Entries) → high ≤ record_number_limit → AreInOrder low high entries → Each HasRoom (lower_nodes entries) → Each HasBlock (entry_leaves entries)
        → Hold (used_rows b records vxr (before_number low) (pos high) entries) × (end_of (before_number low) entries ≡ before_number (past_entries low entries))
    entries_rules_from vxr low high no_entry m o room is = (tt, refl)
    entries_rules_from vxr low high (block first last place packed entries) m o room is =
        grind (arith, signed last, between_by low high first last m o.0 o.1 o.2, entries_rules_from vxr (suc last) high entries m o.3 room is.1)
    entries_rules_from vxr low high (lower first last nodes entries) m o room is =
        let rooms = Each-split HasRoom (nodes_of nodes) (lower_nodes entries) room in
        let blocks = Each-split HasBlock (leaves_of nodes) (entry_leaves entries) is in
        let below = rules_from first last nodes (omega (arith, o.2)) o.3 rooms.0 blocks.0 in
        grind (arith, Hold-append, signed, before_is, below, between_by low high first last m o.0 o.1 o.2, entries_rules_from vxr (suc last) high entries m o.4 rooms.1 blocks.1)

  -- an index in order, of which each node and each block is one
  pub index_rules : (vdr : ℕ) (index : Nodes) → InOrder 0 record_number_limit index → ((m : ℕ) → In m (nodes_of index) → has_room b m ≡ true) → ((l : Leaf) → IsOneOf (leaves_of index) l → (is_block b records l.place ≡ true) × Hold (leaf_rows b records vdr l))
      → Hold (index_rows b records vdr index)
  index_rules vdr index o room each =
      Hold-append (nodes_rows b records (negsuc 0) (pos record_number_limit) index) (flat_map (leaf_rows b records vdr) (leaves_of index)) (rules_from 0 record_number_limit index (omega arith) o (each_place HasRoom (nodes_of index) room) (each_of HasBlock (leaves_of index) (λ l i. (each l i).0)))
      (hold_all (leaf_rows b records vdr) (leaves_of index) (each_of (λ (l : Leaf). Hold (leaf_rows b records vdr l)) (leaves_of index) (λ l i. (each l i).1)))

  pub index_order : (vdr : ℕ) (index : Nodes) → Hold (index_rows b records vdr index) → InOrder 0 record_number_limit index
  index_order vdr index h = order_from b records 0 record_number_limit index (Hold-split (nodes_rows b records (negsuc 0) (pos record_number_limit) index) (flat_map (leaf_rows b records vdr) (leaves_of index)) h).0
