-- The last leaf that begins at a record or before it: of lists, of the parts of an index, and of what the bytes of a node say.
use Rattle.cdf_index.proofs.Common.{AreInOrder, AreTiles, Begun, Distinct, Distinct-back, Distinct-front, Entries, HasNodes, In, In-append_right, InOrder, IsNode, IsStart, Leaf, List, Names, Nodes, None, Option, Some, Stands, [], ap, append-nil, append_assoc, arith, block, chain_reaches, either, eq-eqb, entry_count, entry_leaves, eqb, false, filter, first_at, from_reached, index_at, inl, inr, last_at, leaf, leaves_of, leb, length, linkable-type, link_to, lower, lower_nodes, nat_tests, ne_eqb, next_of, no_entry, no_node, node, nodes_of, offset_at, past_entries, record_number_limit, refl, subst, suc, sym, tiles, top_chain, true, true≢false, type_at, used_count, vxr_type, zero, ℕ, ◌++◌, ◌+◌, ◌-◌, ◌<◌, ◌∙◌, ◌∷◌, ◌≡◌, ◌≢◌, ◌≤◌}
use Rattle.cdf_index.proofs.ByParts.{nodes_from}
use Rattle.cdf_index.proofs.EntriesLeft.{EntriesLeft, NodeParts, node_parts, past_first, past_lower_one}
use Rattle.cdf_index.proofs.FirstEntry.{block_no_node, node_linkable}
use Rattle.cdf_index.proofs.FromReached.{Standing, from_rest, from_top, index_standing, rest_has, rest_index, starts_at}
use Rattle.cdf_index.proofs.Leading.{begun_in, counted_begun, reached_is}
use Rattle.cdf_index.proofs.LeafRules.{widened}
use Rattle.cdf_index.proofs.Looking.{none_there}
use Rattle.cdf_index.proofs.OrderLemmas.{Within, entries_within as entries_in_range}
use Rattle.cdf_index.proofs.WayDown.{chain_there, node_has, node_there_by}
use Rattle.cdf_var_records.specs.Previous.{HasLevels, entries_of, last_begun, leaves_named, leaves_before, leaves_until}
use Rattle.std.proofs.lemmas.List.Elements.{filter-append}
use Rattle.std.specs.List.{last_or}
use Rattle.std.specs.Option.{is_some, option_map, option_or}

-- ---- lists

or_both : {A : Type 0} (o p q : Option A) → option_or (option_or o p) q ≡ option_or o (option_or p q)
or_both None p q = refl
or_both (Some a) p q = refl

last_else : {A : Type 0} (o : Option A) (xs : List A) → last_or o xs ≡ option_or (last_or None xs) o
last_else o [] = refl
last_else o (x ∷ xs) = last_else (Some x) xs ∙ sym (ap (λ (p : Option _). option_or p o) (last_else (Some x) xs) ∙ or_both (last_or None xs) (Some x) o)

last_append : {A : Type 0} (o : Option A) (xs ys : List A) → last_or o (xs ++ ys) ≡ last_or (last_or o xs) ys
last_append o [] ys = refl
last_append o (x ∷ xs) ys = last_append (Some x) xs ys

module _ (rec : ℕ) where
  pub last_both : (xs ys : List Leaf) → last_begun rec (xs ++ ys) ≡ option_or (last_begun rec ys) (last_begun rec xs)
  last_both xs ys =
      ap (last_or None) (filter-append (λ (l : Leaf). leb l.first rec) xs ys)
      ∙ last_append None (filter (λ (l : Leaf). leb l.first rec) xs) (filter (λ (l : Leaf). leb l.first rec) ys)
      ∙ last_else (last_begun rec xs) (filter (λ (l : Leaf). leb l.first rec) ys)

  none_begun : (low high : ℕ) (xs : List Leaf) → Within low high xs → rec < low → last_begun rec xs ≡ None
  none_begun low high [] w lt = refl
  none_begun low high (x ∷ xs) w lt = grind (arith, nat_tests, w.0.0, none_begun low high xs w.1 lt)

  pub one_begun : (l : Leaf) → l.first ≤ rec → last_begun rec (l ∷ []) ≡ Some l
  one_begun l le = grind (arith, nat_tests, le)

-- ---- the entries of a node

-- the leaves of the first entries up to one of them, and of those before it
pub leaves_next : (i : ℕ) (es : Entries) → leaves_before (suc i) es ≡ leaves_before i es ++ leaves_named i es
leaves_next zero no_entry = refl
leaves_next zero (block first last place packed es) = refl
leaves_next zero (lower first last nodes es) = append-nil (leaves_of nodes)
leaves_next (suc i) no_entry = refl
leaves_next (suc i) (block first last place packed es) = ap (λ (xs : List Leaf). leaf first last place packed ∷ xs) (leaves_next i es)
leaves_next (suc i) (lower first last nodes es) = ap (λ (xs : List Leaf). leaves_of nodes ++ xs) (leaves_next i es) ∙ sym (append_assoc (leaves_of nodes) (leaves_before i es) (leaves_named i es))

module _ (rec : ℕ) where
  begun_more : (xs ys zs : List Leaf) → last_begun rec ys ≡ last_begun rec zs → last_begun rec (xs ++ ys) ≡ last_begun rec (xs ++ zs)
  begun_more xs ys zs e = last_both rec xs ys ∙ ap (λ (o : Option Leaf). option_or o (last_begun rec xs)) e ∙ sym (last_both rec xs zs)

  -- none of the leaves of an entry that begins past the record does, and none of those behind it
  past_none : (high first : ℕ) (es : Entries) → AreInOrder first high es → rec < first → last_begun rec (entry_leaves es) ≡ None
  past_none high first es o lt = none_begun rec first high (entry_leaves es) (entries_in_range first high es o) lt

  begun_first : (es : Entries) (n : ℕ) → begun_in rec es ≡ n → last_begun rec (entry_leaves es) ≡ last_begun rec (leaves_before n es) → last_begun rec (entry_leaves es) ≡ last_begun rec (leaves_before (begun_in rec es) es)
  begun_first es n is e = e ∙ ap (λ (m : ℕ). last_begun rec (leaves_before m es)) (sym is)

  -- the entries that begin past the record name no such leaf
  pub all_begun : (low high : ℕ) (es : Entries) → AreInOrder low high es → last_begun rec (entry_leaves es) ≡ last_begun rec (leaves_before (begun_in rec es) es)
  unfolding AreInOrder entry_leaves
  all_begun low high no_entry o = refl
  all_begun low high (block first last place packed es) o = elim (either (leb first rec)) [
    | inl t ↦ begun_first (block first last place packed es) (suc (begun_in rec es)) (rw t refl) (begun_more (leaf first last place packed ∷ []) (entry_leaves es) (leaves_before (begun_in rec es) es) (all_begun (suc last) high es o.3))
    | inr t ↦ begun_first (block first last place packed es) 0 (rw t refl) (past_none high first (block first last place packed es) (omega arith, o.1, o.2, o.3) (grind (arith, nat_tests, t)))
  ]
  all_begun low high (lower first last nodes es) o = elim (either (leb first rec)) [
    | inl t ↦ begun_first (lower first last nodes es) (suc (begun_in rec es)) (rw t refl) (begun_more (leaves_of nodes) (entry_leaves es) (leaves_before (begun_in rec es) es) (all_begun (suc last) high es o.4))
    | inr t ↦ begun_first (lower first last nodes es) 0 (rw t refl) (past_none high first (lower first last nodes es) (omega arith, o.1, o.2, o.3, o.4) (grind (arith, nat_tests, t)))
  ]

  -- ---- the nodes of a chain

  chain_none : (low high : ℕ) (ns : Nodes) → InOrder low high ns → chain_reaches rec ns ≡ false → last_begun rec (leaves_of ns) ≡ None
  unfolding InOrder leaves_of
  chain_none low high no_node o r = refl
  chain_none low high (node place room es more) o r =
      let none : begun_in rec es ≡ 0 = grind (arith, nat_tests, reached_is rec low high es o.0, r) in
      let here : last_begun rec (entry_leaves es) ≡ None = rw none at (all_begun low high es o.0) in
      let behind = chain_none (past_entries low es) high more o.1 (grind (arith, nat_tests, r)) in
      last_both rec (entry_leaves es) (leaves_of more) ∙ rw (here, behind) refl

  -- from the last node on that has an entry which begins at the record or before it, only this one names such leaves
  pub from_own : (low high : ℕ) (ns : Nodes) → InOrder low high ns → last_begun rec (leaves_of (from_reached rec ns)) ≡ last_begun rec (entry_leaves (entries_of (from_reached rec ns)))
  unfolding InOrder leaves_of entry_leaves
  from_own low high no_node o = refl
  from_own low high (node place room es more) o = elim (either (chain_reaches rec more)) [
    | inl t ↦ rw t (from_own (past_entries low es) high more o.1)
    | inr t ↦ rw t (last_both rec (entry_leaves es) (leaves_of more) ∙ ap (λ (p : Option Leaf). option_or p (last_begun rec (entry_leaves es))) (chain_none (past_entries low es) high more o.1 t))
  ]

  in_chain : (m : ℕ) (ns : Nodes) → In m (top_chain ns) → In m (nodes_of ns)
  unfolding nodes_of
  in_chain m no_node i = i
  in_chain m (node place room es more) (inl e) = inl e
  in_chain m (node place room es more) (inr i) = inr (In-append_right m (lower_nodes es) (nodes_of more) (in_chain m more i))

  until_as : (ns s : Nodes) → from_reached rec ns ≡ s → leaves_of ns ≡ leaves_until (link_to s) ns ++ leaves_of s → leaves_of ns ≡ leaves_until (link_to (from_reached rec ns)) ns ++ leaves_of (from_reached rec ns)
  until_as ns s is e = e ∙ ap (λ (x : Nodes). leaves_until (link_to x) ns ++ leaves_of x) (sym is)

  -- the leaves of a chain are those before such a node, and those from it on
  pub until_from : (ns : Nodes) → Distinct (nodes_of ns) → leaves_of ns ≡ leaves_until (link_to (from_reached rec ns)) ns ++ leaves_of (from_reached rec ns)
  unfolding nodes_of leaves_of
  until_from no_node d = refl
  until_from (node place room es more) d = elim (either (chain_reaches rec more)) [
    | inl t ↦
        let s = from_reached rec more in
        let there = (from_top rec more (chain_there rec more t)).1 in
        let other : place ≢ link_to s = λ e. d.0 (In-append_right place (lower_nodes es) (nodes_of more) (in_chain place more (subst (λ (m : ℕ). In m (top_chain more)) (sym e) there))) in
        let so = until_from more (Distinct-back (lower_nodes es) (nodes_of more) d.1) in
        until_as (node place room es more) s (rw t refl)
        (rw (ne_eqb place (link_to s) other) (ap (λ (xs : List Leaf). entry_leaves es ++ xs) so ∙ sym (append_assoc (entry_leaves es) (leaves_until (link_to s) more) (leaves_of s))))
    | inr t ↦ until_as (node place room es more) (node place room es more) (rw t refl) (rw (eq-eqb place place refl) refl)
  ]

-- ---- as the bytes say it

more_levels : (b ts : List ℕ) (levels : ℕ) (nodes : Nodes) → HasNodes b ts levels nodes → HasNodes b ts (suc levels) nodes
unfolding HasNodes Names
more_levels b ts = nodes_from (λ levels es. Names b ts levels es → Names b ts (suc levels) es) (grind arith)

-- what an entry names: a block, or an index on the level below
pub record Told (b : List ℕ) (levels at j : ℕ) (leaves : List Leaf) : Type 0 where
  pub block : type_at b (offset_at b at j) ≢ 6 → leaves ≡ leaf (first_at b at j) (last_at b at j) (offset_at b at j) (eqb (type_at b (offset_at b at j)) 13) ∷ []
  pub lower : type_at b (offset_at b at j) ≡ 6 → HasLevels b levels (offset_at b at j) × (leaves ≡ leaves_of (index_at b (offset_at b at j)))

module _ (b : List ℕ) (tiled : AreTiles b 8 (length b) (tiles b)) (levels at : ℕ) where
  told : (k low high i : ℕ) (es : Entries) → EntriesLeft b 7 at k es → Names b (tiles b) levels es → Distinct (lower_nodes es) → AreInOrder low high es → high ≤ record_number_limit → i < entry_count es → (j : ℕ) → k + i ≡ j → Told b levels at j (leaves_named i es)
  unfolding Names lower_nodes entry_leaves AreInOrder
  told k low high i no_entry l n d o le lt j is = absurd (omega arith)
  told k low high zero (block first last place packed es) l n d o le lt j is =
      let z : k ≡ j = omega arith in
      let e = rw z at l.say.0 in
      record { block = λ no. rw (e.first_is, e.last_is, e.offset_is, n.1) refl; lower = λ t. absurd (block_no_node b place l.blocks.0 (rw e.offset_is at t)) }
  told k low high zero (lower first last nodes es) l n d o le lt j is =
      let z : k ≡ j = omega arith in
      let e = rw z at l.say.0 in
      let p = past_lower_one l in
      let stands : Stands b 8 nodes = record { has = more_levels b (tiles b) 7 nodes p.0.has; orderly = p.0.orderly; blocks = p.0.blocks } in
      let here : Standing b nodes = record { stands = stands; once = Distinct-front (nodes_of nodes) (lower_nodes es) d; order = widened first 0 last record_number_limit nodes (omega arith) (omega (arith, o.2)) o.3 } in
      let x = rest_index tiled here e.offset_is in
      let six : type_at b (offset_at b at j) ≡ 6 = rw e.offset_is (linkable-type b (tiles b) vxr_type (link_to nodes) (node_linkable b levels nodes n.0 n.1)) in
      record { block = λ no. absurd (no six); lower = λ t. (record { index = x.0; has = rw x.1 n.1 }, ap (λ (ns : Nodes). leaves_of ns) (sym x.1)) }
  told k low high (suc i) (block first last place packed es) l n d o le lt j is = told (suc k) (suc last) high i es (past_first l) n.2 d o.3 le (omega arith) j (omega arith)
  told k low high (suc i) (lower first last nodes es) l n d o le lt j is = told (suc k) (suc last) high i es (past_lower_one l).1 n.2 (Distinct-back (nodes_of nodes) (lower_nodes es) d) o.4 le (omega arith) j (omega arith)

-- an index that a link leads to, taken apart at its first node
record AtNode (b : List ℕ) (levels at : ℕ) : Type 0 where
  pub room : ℕ
  pub es : Entries
  pub more : Nodes
  pub is : index_at b at ≡ node at room es more
  pub few : 1 ≤ levels
  pub names : Names b (tiles b) (levels - 1) es
  pub behind : HasNodes b (tiles b) levels more
  pub parts : NodeParts b 7 at room es more
  pub once : Distinct (nodes_of (node at room es more))
  pub order : InOrder 0 record_number_limit (node at room es more)

module _ {b : List ℕ} {levels at : ℕ} (h : HasLevels b levels at) where
  pub no_index : at ≡ 0 → index_at b at ≡ no_node
  no_index z = none_there b 8 (index_at b at) h.index.tiled h.index.index.has_nodes (sym h.index.index.link_is ∙ z)

  module _ (some : at ≢ 0) where
    at_node : AtNode b levels at
    at_node = by (index_at b at) refl
      where
        by : (s : Nodes) → index_at b at ≡ s → AtNode b levels at
        by no_node e = absurd (subst IsNode e (node_there_by at (index_at b at) h.index.index.link_is some))
        by (node place room es more) e =
            let link : at ≡ place = h.index.index.link_is ∙ ap link_to e in
            let is : index_at b at ≡ node at room es more = e ∙ ap (λ (x : ℕ). node x room es more) (sym link) in
            let st = rw is at (index_standing h.index) in
            let n = node_has b (tiles b) levels at room es more (rw is at h.has) in
            record { room = room; es = es; more = more; is = is; few = n.0; names = n.1; behind = n.2; parts = node_parts st.stands; once = st.once; order = st.order }

    pub a_level : 1 ≤ levels
    a_level = at_node.few

    pub entry_told : (i : ℕ) → i < used_count b at → Told b (levels - 1) at i (leaves_named i (entries_of (index_at b at)))
    unfolding nodes_of InOrder
    entry_told i lt =
        let n = at_node in
        rw n.is (told b h.index.tiled (levels - 1) at 0 0 record_number_limit i n.es n.parts.left n.names (Distinct-front (lower_nodes n.es) (nodes_of n.more) n.once.1) n.order.0 (omega arith) (omega (arith, n.parts.says.used_is)) i (omega arith))

    -- so many entries were counted
    pub begun_told : (rec i : ℕ) → Begun b at rec i → last_begun rec (entry_leaves (entries_of (index_at b at))) ≡ last_begun rec (leaves_before i (entries_of (index_at b at)))
    unfolding InOrder
    begun_told rec i g =
        let n = at_node in
        let is = counted_begun b at rec i n.es g n.parts.says.used_is n.parts.says.say_entries in
        rw (n.is, is) (all_begun rec 0 record_number_limit n.es n.order.0)

-- the entries up to one of them, by those before it
node_step : (rec i : ℕ) (es : Entries) → 0 < i → last_begun rec (leaves_before i es) ≡ option_or (last_begun rec (leaves_named (i - 1) es)) (last_begun rec (leaves_before (i - 1) es))
node_step rec i es lt =
    let z : suc (i - 1) ≡ i = omega arith in
    ap (λ (n : ℕ). last_begun rec (leaves_before n es)) (sym z) ∙ ap (last_begun rec) (leaves_next (i - 1) es) ∙ last_both rec (leaves_before (i - 1) es) (leaves_named (i - 1) es)

-- ---- on along a chain

pub record Next (b : List ℕ) (levels at end next : ℕ) : Type 0 where
  pub index : HasLevels b levels next
  pub ends : In end (top_chain (index_at b next))
  pub leaves : leaves_until end (index_at b at) ≡ entry_leaves (entries_of (index_at b at)) ++ leaves_until end (index_at b next)
  pub fewer : length (top_chain (index_at b next)) < length (top_chain (index_at b at))

module _ {b : List ℕ} {levels at : ℕ} (h : HasLevels b levels at) (end : ℕ) (ends : In end (top_chain (index_at b at))) where
  pub some_node : at ≢ 0
  some_node z = rw (no_index h z) at ends

  -- the node at which the walk ends
  pub until_end : at ≡ end → leaves_until end (index_at b at) ≡ []
  until_end e = let n = at_node h some_node in rw (n.is, eq-eqb at end e) refl

  pub next_node : (next : ℕ) → next ≡ next_of b at → at ≢ end → Next b levels at end next
  unfolding nodes_of InOrder
  next_node next is other =
      let n = at_node h some_node in
      let st : Standing b n.more = record { stands = n.parts.more_stands; once = Distinct-back (lower_nodes n.es) (nodes_of n.more) n.once.1; order = widened (past_entries 0 n.es) 0 record_number_limit record_number_limit n.more (omega arith) (omega arith) n.order.1 } in
      let x = rest_index h.index.tiled st (is ∙ n.parts.says.next_is) in
      let further : In end (top_chain n.more) = elim (rw n.is at ends) [ inl e ↦ absurd (other (sym e)) | inr i ↦ i ] in
      record { index = record { index = x.0; has = rw x.1 n.behind }; ends = rw x.1 further; leaves = rw (n.is, ne_eqb at end other, x.1) refl; fewer = rw (n.is, x.1) (omega arith) }

-- ---- where a search starts

module _ {b : List ℕ} {levels link start : ℕ} (rec : ℕ) (h : HasLevels b levels link) (is : IsStart b link rec start) where
  pub none_to_search : start ≡ 0 → last_begun rec (leaves_of (index_at b link)) ≡ None
  unfolding leaves_of
  none_to_search z = rw (no_index h ((starts_at h.index is).empty z)) refl

  pub start_index : HasLevels b levels start
  start_index = let s = starts_at h.index is in record { index = s.has; has = rw s.index_is (rest_has b (tiles b) levels (from_rest rec (index_at b link)) h.has) }

  pub start_among : start ≢ 0 → In start (top_chain (index_at b link))
  start_among ne = (starts_at h.index is).top ne

  -- the leaf is one of the node where the search starts, or one of a node before it
  start_told : last_begun rec (leaves_of (index_at b link)) ≡ option_or (last_begun rec (entry_leaves (entries_of (index_at b start)))) (last_begun rec (leaves_until start (index_at b link)))
  start_told =
      let ns = index_at b link in
      let s = from_reached rec ns in
      ap (last_begun rec) (until_from rec ns h.index.index.once) ∙ last_both rec (leaves_until (link_to s) ns) (leaves_of s)
      ∙ (let own = from_own rec 0 record_number_limit ns h.index.order ∙ ap (λ (x : Nodes). last_begun rec (entry_leaves (entries_of x))) (sym (starts_at h.index is).index_is) in λ i. option_or (own i) (last_begun rec (leaves_until (sym is i) ns)))

-- ---- what was found, or else

module _ {A : Type 0} (f : A → Leaf) where
  found_else : (found : Option A) (p q : Option Leaf) → option_map f found ≡ p → is_some found ≡ true → option_map f found ≡ option_or p q
  found_else None p q e t = absurd (true≢false (sym t))
  found_else (Some a) p q e t = ap (λ (o : Option Leaf). option_or o q) e

  none_else : (found : Option A) (p q : Option Leaf) → option_map f found ≡ p → is_some found ≡ false → option_or p q ≡ q
  none_else None p q e t = ap (λ (o : Option Leaf). option_or o q) (sym e)
  none_else (Some a) p q e t = absurd (true≢false t)

  -- in an entry of a node, or in none of the entries from it on
  module _ (rec i : ℕ) (es : Entries) (all : List Leaf) (found : Option A) (some : 0 < i) (rest : last_begun rec all ≡ last_begun rec (leaves_before i es)) (is : option_map f found ≡ last_begun rec (leaves_named (i - 1) es)) where
    here : last_begun rec all ≡ option_or (last_begun rec (leaves_named (i - 1) es)) (last_begun rec (leaves_before (i - 1) es))
    here = rest ∙ node_step rec i es some

    pub found_here : is_some found ≡ true → option_map f found ≡ last_begun rec all
    found_here t = found_else found (last_begun rec (leaves_named (i - 1) es)) (last_begun rec (leaves_before (i - 1) es)) is t ∙ sym here

    pub not_here : is_some found ≡ false → last_begun rec all ≡ last_begun rec (leaves_before (i - 1) es)
    not_here t = here ∙ none_else found (last_begun rec (leaves_named (i - 1) es)) (last_begun rec (leaves_before (i - 1) es)) is t

  -- in the node where a search starts, or not
  module _ {b : List ℕ} {levels link start : ℕ} (rec : ℕ) (h : HasLevels b levels link) (at : IsStart b link rec start) (found : Option A) (is : option_map f found ≡ last_begun rec (entry_leaves (entries_of (index_at b start)))) where
    pub found_at_start : is_some found ≡ true → option_map f found ≡ last_begun rec (leaves_of (index_at b link))
    found_at_start t = found_else found (last_begun rec (entry_leaves (entries_of (index_at b start)))) (last_begun rec (leaves_until start (index_at b link))) is t ∙ sym (start_told rec h at)

    pub not_at_start : is_some found ≡ false → last_begun rec (leaves_of (index_at b link)) ≡ last_begun rec (leaves_until start (index_at b link))
    not_at_start t = start_told rec h at ∙ none_else found (last_begun rec (entry_leaves (entries_of (index_at b start)))) (last_begun rec (leaves_until start (index_at b link))) is t

map_or : {A B : Type 0} (f : A → B) (o p : Option A) → option_map f (option_or o p) ≡ option_or (option_map f o) (option_map f p)
map_or f None p = refl
map_or f (Some a) p = refl

-- what was found in the nodes up to one of them, with what this one has
pub found_so_far : {A : Type 0} (f : A → Leaf) (rec : ℕ) (here found : Option A) (own later : List Leaf) (left : Option Leaf) → option_map f here ≡ last_begun rec own → left ≡ option_or (last_begun rec (own ++ later)) (option_map f found) → left ≡ option_or (last_begun rec later) (option_map f (option_or here found))
found_so_far f rec here found own later left is so =
    so ∙ ap (λ (o : Option Leaf). option_or o (option_map f found)) (last_both rec own later) ∙ or_both (last_begun rec later) (last_begun rec own) (option_map f found)
    ∙ ap (option_or (last_begun rec later)) (ap (λ (o : Option Leaf). option_or o (option_map f found)) (sym is) ∙ sym (map_or f here found))
