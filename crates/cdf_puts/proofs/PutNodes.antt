-- The nodes of an index that grows leaf by leaf: the index but for where its blocks and its new nodes stand, its top chain, and the unused entries and spare bytes of its nodes.
use Rattle.cdf_puts.proofs.Common.{same_node, bytes_eq, Act, Bool, Each, Each-in, Entries, Gave, Grows, HasNodes, In, In-append, Kept, Leaf, List, Names, NodeFits, NodeSpareStays, Nodes, NodesFollow, Range, Same, Same-part, Took, TopGrows, UnusedEntries, [], ap, arith, block, by_leaf, chain_reaches, each, entries_outline, entry_count, false, if◌then◌else◌, indexes_with, is_in, is_in-true, is_taken_at, leads_down, leaf, length, list_any, lower, lower_nodes, no_entry, no_node, node, nodes_of, outline, past, reaches, refl, room_at, same-then, same_of_bytes_eq, size_at, suc, sym, true, true-is_in, upto, used_count, uses_entry, uses_entry_below, with_both, with_leaf, with_lower, with_ranges, zero, ℕ, ◌*◌, ◌++◌, ◌+◌, ◌<◌, ◌||◌, ◌∙◌, ◌∷◌, ◌≡◌, ◌⊎◌, nat_tests, In-append_left, In-append_right}

-- ---- an outline says the same of an index as the index does

-- where a node stands in it
abbrev pub place_outside : List ℕ → ℕ → ℕ
place_outside news place = if is_in place news then 0 else place

abbrev pub bare : Leaf → Leaf
bare l = leaf l.first l.last 0 false

module _ (news : List ℕ) where
  -- what is asked of the entries of a node on the way to a leaf, and how they are split there
  record Alike (new : Leaf) (es : Entries) : Type 0 where
    count : entry_count (entries_outline news es) ≡ entry_count es
    reach : reaches new.first (entries_outline news es) ≡ reaches new.first es
    lead : (given : Bool) → leads_down new.first given (entries_outline news es) ≡ leads_down new.first given es
    behind : past new.first (entries_outline news es) ≡ entries_outline news (past new.first es)
    before : upto (bare new) (entries_outline news es) ≡ entries_outline news (upto new es)
    joined : (fs : Entries) → with_both (entries_outline news es) (entries_outline news fs) ≡ entries_outline news (with_both es fs)

  alike : (new : Leaf) (es : Entries) → Alike new es
  unfolding outline
  alike new no_entry = record { count = refl; reach = refl; lead = λ given. refl; behind = refl; before = refl; joined = λ fs. refl }
  alike new (block first last place packed es) = let a = alike new es in grind (arith, a.count, a.reach, a.lead false, a.behind, a.before, a.joined)
  alike new (lower first last nodes es) = let a = alike new es in grind (arith, a.count, a.reach, a.lead true, a.behind, a.before, a.joined)

  chain_outline : (new : Leaf) (ns : Nodes) → chain_reaches new.first (outline news ns) ≡ chain_reaches new.first ns
  unfolding outline
  chain_outline new no_node = refl
  chain_outline new (node place room es more) = grind (arith, (alike new es).reach, chain_outline new more)

  -- ---- a leaf more

  mutual
    unfolding outline with_leaf with_lower

    outline_with_leaf : (new : Leaf) (at : ℕ) (index : Nodes) → with_leaf (bare new) (place_outside news at) (outline news index) ≡ outline news (with_leaf new at index)
    outline_with_leaf new at no_node = refl
    outline_with_leaf new at (node place room es more) = let a = alike new es in grind (arith, chain_outline new more, a.lead false, outline_with_leaf new at more, outline_with_lower new at es, a.count, a.before, a.behind, (alike new (past new.first es)).count, (alike new (upto new es)).joined (past new.first es))

    outline_with_lower : (new : Leaf) (at : ℕ) (es : Entries) → with_lower (bare new) (place_outside news at) (entries_outline news es) ≡ entries_outline news (with_lower new at es)
    outline_with_lower new at no_entry = refl
    outline_with_lower new at (block first last place packed es) = ap (block first last 0 false) (outline_with_lower new at es)
    outline_with_lower new at (lower first last nodes es) = grind (arith, (alike new es).reach, outline_with_leaf new at nodes, outline_with_lower new at es)

  -- ---- which entries are used

  module _ (vxr i : ℕ) (old : is_in vxr news ≡ false) (stands : vxr ≡ 0 → ⊥) where
    mutual
      unfolding outline uses_entry uses_entry_below

      pub uses_outline : (index : Nodes) → uses_entry vxr i (outline news index) ≡ uses_entry vxr i index
      uses_outline no_node = refl
      uses_outline (node place room es more) = grind (arith, nat_tests, old, stands, (alike (leaf 0 0 0 false) es).count, uses_below_outline es, uses_outline more)

      pub uses_below_outline : (es : Entries) → uses_entry_below vxr i (entries_outline news es) ≡ uses_entry_below vxr i es
      uses_below_outline no_entry = refl
      uses_below_outline (block first last place packed es) = uses_below_outline es
      uses_below_outline (lower first last nodes es) = rw (uses_outline nodes, uses_below_outline es) refl

-- new places count alike where they do so at the nodes
mutual
  unfolding outline nodes_of lower_nodes

  outline_agrees : (news news' : List ℕ) (index : Nodes) → ((m : ℕ) → In m (nodes_of index) → is_in m news' ≡ is_in m news) → outline news' index ≡ outline news index
  outline_agrees news news' no_node same = refl
  outline_agrees news news' (node place room es more) same = grind (arith, same, In-append_left, In-append_right, outline_agrees news news' more, entries_agree news news' es)

  entries_agree : (news news' : List ℕ) (es : Entries) → ((m : ℕ) → In m (lower_nodes es) → is_in m news' ≡ is_in m news) → entries_outline news' es ≡ entries_outline news es
  entries_agree news news' no_entry same = refl
  entries_agree news news' (block first last place packed es) same = ap (block first last 0 false) (entries_agree news news' es same)
  entries_agree news news' (lower first last nodes es) same = grind (arith, same, In-append_left, In-append_right, outline_agrees news news' nodes, entries_agree news news' es)

-- ---- two indexes with the same outline, where new nodes stand at 0 in the second

-- A leaf more keeps it, where a node that is needed stands at a new place, and one that is not at 0; no node that was there is new by that.
pub same_with_leaf : (news news' : List ℕ) (new : Leaf) (at : ℕ) (index index' : Nodes) → outline news index ≡ outline [] index' → ((m : ℕ) → In m (nodes_of index) → is_in m news' ≡ is_in m news) → place_outside news' at ≡ 0 → outline news' (with_leaf new at index) ≡ outline [] (with_leaf (bare new) 0 index')
same_with_leaf news news' new at index index' same agree outside = grind (arith, outline_with_leaf news' new at index, outside, outline_agrees news news' index agree, same, outline_with_leaf [] (bare new) 0 index')

pub same_uses : (news : List ℕ) (vxr i : ℕ) (index index' : Nodes) → outline news index ≡ outline [] index' → is_in vxr news ≡ false → (vxr ≡ 0 → ⊥) → uses_entry vxr i index ≡ uses_entry vxr i index'
same_uses news vxr i index index' same old stands = sym (uses_outline news vxr i old stands index) ∙ ap (uses_entry vxr i) same ∙ uses_outline [] vxr i refl stands index'

-- ---- an entry that a node uses is used in the index

module _ (b records : List ℕ) (vxr i : ℕ) (used : i < used_count b vxr) where
  mutual
    unfolding HasNodes Names nodes_of lower_nodes uses_entry uses_entry_below

    used_in : (levels : ℕ) (index : Nodes) → HasNodes b records levels index → In vxr (nodes_of index) → uses_entry vxr i index ≡ true
    used_in levels no_node h m = absurd m
    used_in zero (node place room es more) h m = absurd h
    used_in (suc levels) (node place room es more) h m = grind (arith, nat_tests, m, h.0.used_is, In-append vxr (lower_nodes es) (nodes_of more), used_below levels es h.1, used_in (suc levels) more h.2)

    used_below : (levels : ℕ) (es : Entries) → Names b records levels es → In vxr (lower_nodes es) → uses_entry_below vxr i es ≡ true
    used_below levels no_entry n m = absurd m
    used_below levels (block first last place packed es) n m = used_below levels es n.2 m
    used_below levels (lower first last nodes es) n m = grind (arith, In-append vxr (nodes_of nodes) (lower_nodes es) m, used_in levels nodes n.1, used_below levels es n.2)

-- ---- the indexes that a command goes through

-- what holds of the last of them, or of one, goes on to hold of one
pub through_goes : (P : Nodes → Bool) (index : Nodes) (rs : List Range) (r : Range) → (P (with_ranges index rs) ≡ true) ⊎ (list_any P (indexes_with index rs) ≡ true) → list_any P (indexes_with index (rs ++ r ∷ [])) ≡ true
unfolding indexes_with
through_goes P index [] r e = grind (arith, e)
through_goes P index (x ∷ rs) r e = grind (arith, e, through_goes P (with_leaf (leaf x.first x.last 0 false) 0 index) rs r)

-- ---- the top chain

-- the top chain stays, or it grows
pub top_grows : (new : Leaf) (at : ℕ) (index : Nodes) → TopGrows index (with_leaf new at index)
top_grows new at index = let steps : Grows new at (λ n a a'. TopGrows a a') (λ n es es'. Unit {0}) = grind arith in by_leaf steps index

pub bytes_longer : (xs ys : List ℕ) → length xs < length ys → bytes_eq xs ys ≡ false
bytes_longer xs ys l = grind (arith, l, same_of_bytes_eq xs ys)

-- ---- what was taken first, and then

pub taken_both : (acts acts' : List Act) (m : ℕ) → is_taken_at (acts ++ acts') m ≡ (is_taken_at acts m || is_taken_at acts' m)
taken_both [] acts' m = refl
taken_both (Took place need ∷ more) acts' m = grind (arith, taken_both more acts' m)
taken_both (Gave place size ∷ more) acts' m = taken_both more acts' m

pub unless_true : {A : Type 0} {p : Bool} → A ⊎ (p ≡ true) → p ≡ false → A
unless_true s e = grind (arith, s, e)

-- ---- nodes that stay

-- what follows the entries of a node, where it stays
pub spare_then : (b mid now : List ℕ) (acts : List Act) (m : ℕ) → room_at now m ≡ room_at mid m → (is_taken_at acts m ≡ false → size_at mid m ≡ size_at b m) → Same mid now (m + (28 + 16 * room_at mid m)) (m + size_at mid m) → NodeSpareStays b mid acts m → NodeSpareStays b now acts m
spare_then b mid now acts m room size same was e = rw room (same-then b mid now (m + (28 + 16 * room_at mid m)) (m + size_at b m) (was e) (rw (size e) at same))

-- none of them changes
pub nodes_same : (b mid now : List ℕ) (through : List Nodes) (before after : List ℕ) (acts : List Act) → ((m : ℕ) → In m after → NodeFits mid m) → ((m : ℕ) → In m after → Kept mid now m) → ((m : ℕ) → In m after → is_taken_at acts m ≡ false → size_at mid m ≡ size_at b m)
    → NodesFollow b mid through before after acts → NodesFollow b now through before after acts
nodes_same b mid now through before after acts fit kept sizes f = record {
  unused = each (UnusedEntries b now through before acts) after (λ m j i from upto.
      let n = same_node mid now m (kept m j) (fit m j) in
      let says = n.entries i (omega arith) _ _ _ (record { first_is = refl; last_is = refl; offset_is = refl }) in
      grind (arith, says, Each-in (UnusedEntries b mid through before acts) after f.unused m j i (omega arith) (omega arith)));
  spare = each (NodeSpareStays b now acts) after (λ m j. spare_then b mid now acts m (same_node mid now m (kept m j) (fit m j)).room_is (sizes m j) (Same-part mid now m (m + size_at mid m) _ _ (kept m j).same (omega arith) (omega arith)) (Each-in (NodeSpareStays b mid acts) after f.spare m j));
}

-- ---- a leaf is added

-- what a leaf more does to the nodes that were there
pub record NodesStep (mid now : List ℕ) (index : Nodes) (after : List ℕ) (acts : List Act) : Type 0 where
  pub stay : (m : ℕ) → In m (nodes_of index) → In m after
  pub apart : (m : ℕ) → In m (nodes_of index) → is_taken_at acts m ≡ false
  pub come : (m : ℕ) → In m after → In m (nodes_of index) ⊎ (is_taken_at acts m ≡ true)
  pub sizes : (m : ℕ) → In m (nodes_of index) → size_at now m ≡ size_at mid m
  pub rooms : (m : ℕ) → In m (nodes_of index) → room_at now m ≡ room_at mid m
  pub spare : (m : ℕ) → In m (nodes_of index) → Same mid now (m + (28 + 16 * room_at mid m)) (m + size_at mid m)
  pub unused : Each (UnusedEntries mid now (index ∷ []) (nodes_of index) acts) after

module _ (b mid now : List ℕ) (through through' : List Nodes) (before after : List ℕ) (index : Nodes) (acts acts' : List Act) (f : NodesFollow b mid through before (nodes_of index) acts)
    (step : NodesStep mid now index after acts') (before_in : (m : ℕ) → In m before → In m (nodes_of index)) (sizes : (m : ℕ) → In m before → size_at mid m ≡ size_at b m)
    (come : (m : ℕ) → In m (nodes_of index) → In m before ⊎ (is_taken_at acts m ≡ true)) (more : (m i : ℕ) → list_any (uses_entry m i) through ≡ true → list_any (uses_entry m i) through' ≡ true)
    (uses : (m i : ℕ) → In m before → uses_entry m i index ≡ true → list_any (uses_entry m i) through' ≡ true) (records : List ℕ) (levels : ℕ) (has : HasNodes mid records levels index) where
  unused_now : (m : ℕ) → In m after → UnusedEntries b now through' before (acts ++ acts') m
  unused_now m k i low high =
      let entry = Each-in (UnusedEntries mid now (index ∷ []) (nodes_of index) acts') after step.unused m k i low high in
      let used = λ (lt : i < used_count mid m). used_in mid records m i lt levels index has in
      grind (arith, nat_tests, entry, used, Each-in (UnusedEntries b mid through before acts) (nodes_of index) f.unused m, taken_both acts acts' m, true-is_in m (nodes_of index), true-is_in m before, before_in m, step.rooms m, step.apart m, is_in-true m (nodes_of index), uses m i, more m i)

  spare_now : (m : ℕ) → In m after → NodeSpareStays b now (acts ++ acts') m
  spare_now m k e = grind (arith, e, taken_both acts acts' m, step.come m k, come m, step.rooms m, sizes m, step.spare m, Each-in (NodeSpareStays b mid acts) (nodes_of index) f.spare m, same-then b mid now (m + (28 + 16 * room_at mid m)) (m + size_at b m))

  pub nodes_then : NodesFollow b now through' before after (acts ++ acts')
  nodes_then = search (each, unused_now, spare_now)
