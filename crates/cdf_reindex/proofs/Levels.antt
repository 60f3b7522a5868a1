-- Levels make an index of their leaves: what the entries that name the nodes of a level have of those in them, and what holds of all levels.
use Rattle.cdf_reindex.proofs.Common.{in-times, take, take_all, AreInOrder, AreLevels, AreTight, Each, Each-split, Entries, EntriesTight, Filled, FullFromLeft, HasNodes, In, InOrder, Leaf, List, LowerAreZero, MakesPyramid, Named, Names, NewNode, NextsAreZero, None, Option, SaysNode, Some, Spans, [], alone, ap, append-nil, append_assoc, ap₂, arith, block, cases_lt, count_both, entries_for, entries_of, entry_count, entry_leaves, first_of, from_below, inl, inr, last_of, last_or, leaves_both, leaves_of, length, length-append, length-map, levels_up, lower, lower_both, lower_nodes, map, map-append, names_parts, nat_tests, no_entry, no_node, nodes_above, nodes_at, nodes_below, nodes_left, nodes_of, option_map, parts_in_order, past_entries, places_of, quotient_up, refl, subst, suc, sum, sum_by-cons, sym, times, times-in, uppers, with_both, zero, ℕ, ◌*◌, ◌++◌, ◌+◌, ◌∙◌, ◌∷◌, ◌≡◌, ◌≤◌, ◌⊎◌, rules}

-- what counts a list by its parts
abbrev pub Adds : (List ℕ → ℕ) → Type 0
Adds f = (xs ys : List ℕ) → f (xs ++ ys) ≡ f xs + f ys

-- ---- two lists of entries

parts : (entries others : Entries) → (LowerAreZero (with_both entries others) → LowerAreZero entries × LowerAreZero others) × (EntriesTight (with_both entries others) → EntriesTight entries × EntriesTight others)
unfolding NextsAreZero LowerAreZero AreTight EntriesTight
parts no_entry others = (λ z. (tt, z), λ t. (tt, t))
parts (block first last place packed entries) others = parts entries others
parts (lower first last nodes entries) others = let r = parts entries others in (λ z. let p = r.0 z.1 in ((z.0, p.0), p.1), λ t. let p = r.1 t.2 in ((t.0, t.1, p.0), p.1))

below_both : (levels : ℕ) (entries others : Entries) → nodes_below levels (with_both entries others) ≡ nodes_below levels entries ++ nodes_below levels others
unfolding nodes_at nodes_below
below_both levels no_entry others = refl
below_both levels (block first last place packed entries) others = below_both levels entries others
below_both levels (lower first last nodes entries) others = ap (λ (ps : List (ℕ × ℕ)). nodes_at levels nodes ++ ps) (below_both levels entries others) ∙ sym (append_assoc (nodes_at levels nodes) (nodes_below levels entries) (nodes_below levels others))

-- ---- entries go from the first record of the first one to the last of the last one

-- they go on behind a record
behind : (last high : ℕ) (entries : Entries) → last ≤ high → AreInOrder (suc last) high entries → (last ≤ last_of last entries) × (last_of last entries ≤ high) × AreInOrder (suc last) (last_of last entries) entries × (past_entries (suc last) entries ≡ suc (last_of last entries))
unfolding InOrder AreInOrder
behind last high no_entry le o = (omega arith, le, tt, refl)
behind last high (block f l place packed entries) le o = let r = behind l high entries o.2 o.3 in (omega (arith, o.0, o.1, r.0), r.1, (o.0, o.1, r.0, r.2), r.3)
behind last high (lower f l nodes entries) le o = let r = behind l high entries o.2 o.4 in (omega (arith, o.0, o.1, r.0), r.1, (o.0, o.1, r.0, o.3, r.2), r.3)

narrow : (low high : ℕ) (entries : Entries) → 1 ≤ entry_count entries → AreInOrder low high entries
    → (low ≤ first_of entries) × (first_of entries ≤ last_of 0 entries) × (last_of 0 entries ≤ high) × AreInOrder (first_of entries) (last_of 0 entries) entries × (past_entries low entries ≡ suc (last_of 0 entries))
unfolding InOrder AreInOrder
narrow low high no_entry some o = absurd (omega arith)
narrow low high (block f l place packed entries) some o = let r = behind l high entries o.2 o.3 in (o.0, omega (arith, o.1, r.0), r.1, (omega arith, o.1, r.0, r.2), r.3)
narrow low high (lower f l nodes entries) some o = let r = behind l high entries o.2 o.4 in (o.0, omega (arith, o.1, r.0), r.1, (omega arith, o.1, r.0, o.3, r.2), r.3)

last_behind : (o : Option Leaf) (xs ys : List Leaf) (n : ℕ) → option_map (λ (l : Leaf). l.last) (last_or None ys) ≡ Some n → option_map (λ (l : Leaf). l.last) (last_or o (xs ++ ys)) ≡ Some n
last_behind o [] [] n e = absurd cc
last_behind o [] (y ∷ ys) n e = e
last_behind o (x ∷ xs) ys n e = last_behind (Some x) xs ys n e

spans_both : {first last first' last' : ℕ} (xs ys : List Leaf) → Spans first last xs → Spans first' last' ys → Spans first last' (xs ++ ys)
spans_both [] ys s t = absurd (cc s.0)
spans_both {last' = last'} (x ∷ xs) ys s t = (s.0, last_behind (Some x) xs ys last' t.1)

-- leaves, and then those below entries
spanned : (first last : ℕ) (ls : List Leaf) (entries : Entries) → Spans first last ls → EntriesTight entries → Spans first (last_of last entries) (ls ++ entry_leaves entries)
unfolding AreTight EntriesTight leaves_of entry_leaves
spanned first last ls no_entry s t = rw (append-nil ls) s
spanned first last ls (block f l place packed es) s t = rw (append_assoc ls (record { first = f; last = l; place = place; packed = packed } ∷ []) (entry_leaves es)) at (spanned first l (ls ++ record { first = f; last = l; place = place; packed = packed } ∷ []) es (spans_both ls _ s (refl, refl)) t)
spanned first last ls (lower f l nodes es) s t = rw (append_assoc ls (leaves_of nodes) (entry_leaves es)) at (spanned first l (ls ++ leaves_of nodes) es (spans_both ls (leaves_of nodes) s t.0) t.2)

spans : (entries : Entries) → 1 ≤ entry_count entries → EntriesTight entries → Spans (first_of entries) (last_of 0 entries) (entry_leaves entries)
unfolding AreTight EntriesTight leaves_of entry_leaves
spans no_entry some t = absurd (omega arith)
spans (block first last place packed es) some t = spanned first last (record { first = first; last = last; place = place; packed = packed } ∷ []) es (refl, refl) t
spans (lower first last nodes es) some t = spanned first last (leaves_of nodes) es t.0 t.2

-- ---- a level

-- an image says a new node
abbrev pub Says : List ℕ → List ℕ → NewNode → Type 0
Says now rs new = SaysNode now rs new.place 64 new.entries no_node

-- where a node stands, and how many entries it has
abbrev counted : List NewNode → List (ℕ × ℕ)
counted level = map (λ new. (new.place, entry_count new.entries)) level

pub record Raised (level : List NewNode) : Type 0 where
  pub count : entry_count (uppers level) ≡ length level
  pub shortest : length level ≡ quotient_up (entry_count (entries_of level)) 64
  pub sum_is : sum (map (λ pair. pair.1) (counted level)) ≡ entry_count (entries_of level)
  pub leaves_are : entry_leaves (uppers level) ≡ entry_leaves (entries_of level)
  pub order : (low high : ℕ) → AreInOrder low high (entries_of level) → AreInOrder low high (uppers level)
  pub zeros : LowerAreZero (entries_of level) → LowerAreZero (uppers level)
  pub tight : EntriesTight (entries_of level) → EntriesTight (uppers level)
  pub here : nodes_below 0 (uppers level) ≡ counted level
  pub below : (levels : ℕ) → nodes_below (suc levels) (uppers level) ≡ nodes_below levels (entries_of level)
  pub nodes : (f : List ℕ → ℕ) → Adds f → f (lower_nodes (uppers level)) ≡ f (places_of level ++ lower_nodes (entries_of level))
  pub names : (now rs : List ℕ) (levels : ℕ) → Each (Says now rs) level → Names now rs levels (entries_of level) → Names now rs (suc levels) (uppers level)

pub raised : (level : List NewNode) → Filled level → Raised level
unfolding leaves_of entry_leaves InOrder AreInOrder NextsAreZero LowerAreZero AreTight EntriesTight nodes_of lower_nodes nodes_at nodes_below HasNodes Names
raised [] f = search rules
raised (new ∷ more) f =
    let r = raised more f.3 in
    let es = new.entries in
    let both = count_both es (entries_of more) in
    record {
      count = ap suc r.count;
      shortest = elim (cases_lt (length more) 1) [ inl lt ↦ omega (arith, both, f.0, f.1, r.shortest, lt) | inr le ↦ omega (arith, both, f.2 le, r.shortest) ];
      sum_is = sum_by-cons (λ x. x) (entry_count es) (map (λ pair. pair.1) (counted more)) ∙ omega (arith, both, r.sum_is);
      leaves_are = rw (leaves_both es (entries_of more), append-nil (entry_leaves es), r.leaves_are) refl;
      order = λ low high o.
          let p = parts_in_order low high es (entries_of more) o in
          let w = narrow low high es f.0 p.0 in
          (w.0, w.1, w.2, (w.3, tt), r.order (suc (last_of 0 es)) high (rw w.4 at p.1));
      zeros = λ z. let p = (parts es (entries_of more)).0 z in (p.0, r.zeros p.1);
      tight = λ t. let p = (parts es (entries_of more)).1 t in (rw (append-nil (entry_leaves es)) (spans es f.0 p.0), (p.0, tt), r.tight p.1);
      here = ap (λ (ps : List (ℕ × ℕ)). (new.place, entry_count es) ∷ ps) r.here;
      below = λ levels. rw (below_both levels es (entries_of more), append-nil (nodes_below levels es), r.below levels) refl;
      nodes = λ f adds.
          let back = ap f (lower_both es (entries_of more)) ∙ adds (lower_nodes es) (lower_nodes (entries_of more)) in
          rw (append-nil (lower_nodes es))
          (adds (new.place ∷ lower_nodes es) (lower_nodes (uppers more))
          ∙ omega (arith, adds (new.place ∷ []) (lower_nodes es), r.nodes f adds ∙ adds (places_of more) (lower_nodes (entries_of more)), adds (new.place ∷ []) (places_of more), adds (new.place ∷ places_of more) (lower_nodes (with_both es (entries_of more))), back));
      names = λ now rs levels s h. let p = names_parts now rs levels es (entries_of more) h in (tt, (s.0, p.0, tt), r.names now rs levels s.1 p.1);
    }

-- ---- all levels

-- a level by its number, from the top one down
abbrev row : List (List NewNode) → ℕ → List NewNode
row [] k = []
row (level ∷ more) zero = level
row (level ∷ more) (suc k) = row more k

-- the nodes of the upper levels, with one level more
one_more : (k : ℕ) (levels : List (List NewNode)) → from_below (take (suc k) levels) ≡ row levels k ++ from_below (take k levels)
one_more zero [] = refl
one_more (suc k) [] = refl
one_more zero (level ∷ more) = sym (append-nil level)
one_more (suc k) (level ∷ more) = rw (one_more k more) (append_assoc (row more k) (from_below (take k more)) level)

-- entries over levels
pub record Piled (leaves : List Leaf) (entries : Entries) (levels : List (List NewNode)) : Type 0 where
  pub leaves_are : entry_leaves entries ≡ leaves
  pub order : (high : ℕ) → AreInOrder 0 high (entries_for leaves) → AreInOrder 0 high entries
  pub zeros : LowerAreZero entries
  pub tight : EntriesTight entries
  pub nodes : (f : List ℕ → ℕ) → Adds f → f (lower_nodes entries) ≡ f (places_of (from_below levels))
  pub rows : (k : ℕ) → nodes_below k entries ≡ counted (row levels k)
  pub names : (now rs : List ℕ) (deep : ℕ) → length levels ≤ deep → Each (Named now rs) leaves → Each (Says now rs) (from_below levels) → Names now rs deep entries

pile_none : (leaves : List Leaf) → Piled leaves (entries_for leaves) []
unfolding leaves_of entry_leaves NextsAreZero LowerAreZero AreTight EntriesTight nodes_of lower_nodes nodes_at nodes_below HasNodes Names
pile_none [] = record { leaves_are = refl; order = λ high o. o; zeros = tt; tight = tt; nodes = λ f adds. refl; rows = λ k. refl; names = λ now rs deep few named s. tt }
pile_none (leaf ∷ more) =
    let r = pile_none more in
    record { leaves_are = ap (λ (ls : List Leaf). leaf ∷ ls) r.leaves_are; order = λ high o. o; zeros = r.zeros; tight = r.tight; nodes = r.nodes; rows = r.rows; names = λ now rs deep few named s. (named.0.0, named.0.1, r.names now rs deep few named.1 s) }

pile_more : {leaves : List Leaf} (level : List NewNode) {more : List (List NewNode)} → Filled level → Piled leaves (entries_of level) more → Piled leaves (uppers level) (level ∷ more)
pile_more {leaves = leaves} level {more = more} f p =
    let r = raised level f in
    let nodes : (f : List ℕ → ℕ) → Adds f → f (lower_nodes (uppers level)) ≡ f (places_of (from_below (level ∷ more))) =
    λ f adds. omega (arith, r.nodes f adds ∙ adds (places_of level) (lower_nodes (entries_of level)), p.nodes f adds, ap f (map-append (λ (new : NewNode). new.place) (from_below more) level) ∙ adds (places_of (from_below more)) (places_of level)) in
    search (rules, r.leaves_are ∙ p.leaves_are, r.order, p.order, r.zeros p.zeros, r.tight p.tight, nodes, rows r, names r)
  where
    rows : Raised level → (k : ℕ) → nodes_below k (uppers level) ≡ counted (row (level ∷ more) k)
    rows r zero = r.here
    rows r (suc k) = r.below k ∙ p.rows k

    names : Raised level → (now rs : List ℕ) (deep : ℕ) → length (level ∷ more) ≤ deep → Each (Named now rs) leaves → Each (Says now rs) (from_below (level ∷ more)) → Names now rs deep (uppers level)
    names r now rs zero few named s = absurd (omega arith)
    names r now rs (suc deep) few named s = let t = Each-split (Says now rs) (from_below more) level s in r.names now rs deep t.1 (p.names now rs deep (omega arith) named t.0)

pub top_filled : (leaves : List Leaf) (level : List NewNode) (more : List (List NewNode)) → AreLevels leaves (level ∷ more) → Filled level
top_filled leaves level [] l = l.1
top_filled leaves level (below ∷ more) l = l.1

-- the entries in a level, which are over those below it
in_level : (leaves : List Leaf) (level : List NewNode) (more : List (List NewNode)) → AreLevels leaves (level ∷ more) → Piled leaves (entries_of level) more
in_level leaves level [] l = subst (λ (es : Entries). Piled leaves es []) (sym l.0) (pile_none leaves)
in_level leaves level (below ∷ more) l = subst (λ (es : Entries). Piled leaves es (below ∷ more)) (sym l.0) (pile_more below (top_filled leaves below more l.3) (in_level leaves below more l.3))

full_level : (level : List NewNode) → Filled level → FullFromLeft (counted level)
full_level [] f = tt
full_level (new ∷ []) f = tt
full_level (new ∷ next ∷ more) f = (f.2 (omega arith), full_level (next ∷ more) f.3)

-- each level is full from the left, and each but the lowest has an entry for each node of the next one
rows : (leaves : List Leaf) (level : List NewNode) (more : List (List NewNode)) → AreLevels leaves (level ∷ more) → (k : ℕ)
    → FullFromLeft (counted (row (level ∷ more) k)) × ((counted (row more k) ≡ []) ⊎ (length (counted (row more k)) ≡ sum (map (λ pair. pair.1) (counted (row (level ∷ more) k)))))
rows leaves level [] l zero = (full_level level l.1, inl refl)
rows leaves level [] l (suc k) = (tt, inl refl)
rows leaves level (below ∷ more) l zero = (full_level level l.1, inr (omega (arith, length-map {B = ℕ × ℕ} below (λ new. (new.place, entry_count new.entries)), (raised below (top_filled leaves below more l.3)).count, ap entry_count l.0, (raised level l.1).sum_is)))
rows leaves level (below ∷ more) l (suc k) = rows leaves below more l.3 k

-- ---- how many levels, and how many nodes

abbrev pub leaves_under : ℕ → ℕ
leaves_under zero = 1
leaves_under (suc levels) = 64 * leaves_under levels

pub above_is : (k n : ℕ) → 1 ≤ n → nodes_above (suc k) n ≡ quotient_up n 64 + nodes_left k (quotient_up n 64)
unfolding nodes_above
above_is k n some = grind (arith, nat_tests)

pub left_more : (k n : ℕ) → 2 ≤ n → nodes_left k n ≡ nodes_above k n
left_more k n some = grind (arith, nat_tests)

-- how many more levels there may be, up to 6, and how many nodes there are in all
abbrev pub Tall : List Leaf → List NewNode → List (List NewNode) → Type 0
Tall leaves level more = (left : ℕ) × ((length (level ∷ more) + left ≡ 6) × (length level ≤ leaves_under left) × (1 ≤ length leaves → nodes_above 8 (length leaves) ≡ length (from_below (level ∷ more)) + nodes_left (suc (suc left)) (length level)))

count_for : (leaves : List Leaf) → entry_count (entries_for leaves) ≡ length leaves
count_for [] = refl
count_for (leaf ∷ more) = ap suc (count_for more)

-- 2^31 leaves need no more than 6 levels
pub tall : (leaves : List Leaf) (level : List NewNode) (more : List (List NewNode)) → AreLevels leaves (level ∷ more) → length leaves ≤ 2147483648 → Tall leaves level more
tall leaves level [] l few =
    let n = (raised level l.1).shortest ∙ ap (λ (k : ℕ). quotient_up k 64) (ap entry_count l.0 ∙ count_for leaves) in
    (5, (omega arith, omega (arith, n), λ some. above_is 7 (length leaves) some ∙ ap (λ (k : ℕ). k + nodes_left 7 k) (sym n)))
tall leaves level (below ∷ more) l few = go (tall leaves below more l.3 few)
  where
    go : Tall leaves below more → Tall leaves level (below ∷ more)
    go (zero, r) = absurd (omega (arith, l.2, r.1))
    go (suc d, r) =
        let n = (raised level l.1).shortest ∙ ap (λ (k : ℕ). quotient_up k 64) (ap entry_count l.0 ∙ (raised below (top_filled leaves below more l.3)).count) in
        (d, (omega (arith, r.0), omega (arith, n, r.1), λ some. omega (arith, r.2 some, left_more (suc (suc (suc d))) (length below) l.2, above_is (suc (suc d)) (length below) (omega (arith, l.2)), ap (λ (k : ℕ). k + nodes_left (suc (suc d)) k) n, length-append (from_below (below ∷ more)) level)))

-- ---- of one node

module _ (leaves : List Leaf) (top : NewNode) (more : List (List NewNode)) (l : AreLevels leaves ((top ∷ []) ∷ more)) where
  inner : Piled leaves (entries_of (top ∷ [])) more
  inner = in_level leaves (top ∷ []) more l

  p : Piled leaves (uppers (top ∷ [])) ((top ∷ []) ∷ more)
  p = pile_more (top ∷ []) (top_filled leaves (top ∷ []) more l) inner

  at : (k : ℕ) → nodes_at k (alone top) ≡ counted (row ((top ∷ []) ∷ more) k)
  unfolding nodes_at nodes_below
  at k = sym (append-nil (nodes_at k (alone top))) ∙ p.rows k

  up : (n : ℕ) → levels_up n (alone top) ≡ places_of (from_below (take (suc n) ((top ∷ []) ∷ more)))
  up zero = ap (map (λ pair. pair.0)) (at 0)
  up (suc n) = ap₂ (λ (xs ys : List ℕ). xs ++ ys) (ap (map (λ pair. pair.0)) (at (suc n)) ∙ mapped (row more n)) (up n) ∙ sym (ap places_of (one_more (suc n) ((top ∷ []) ∷ more)) ∙ map-append (λ (new : NewNode). new.place) (row more n) (from_below (take (suc n) ((top ∷ []) ∷ more))))
    where
      mapped : (ns : List NewNode) → map (λ pair. pair.0) (counted ns) ≡ places_of ns
      mapped [] = refl
      mapped (new ∷ ns) = ap (λ (ps : List ℕ). new.place ∷ ps) (mapped ns)

  pub nodes_are : (f : List ℕ → ℕ) → Adds f → f (nodes_of (alone top)) ≡ f (places_of (from_below ((top ∷ []) ∷ more)))
  unfolding nodes_of lower_nodes
  nodes_are f adds = ap f (sym (append-nil (nodes_of (alone top)))) ∙ p.nodes f adds

  pub has_pyramid : (now rs : List ℕ) (deep : ℕ) → length ((top ∷ []) ∷ more) ≤ deep → Each (Named now rs) leaves → Each (Says now rs) (from_below ((top ∷ []) ∷ more)) → HasNodes now rs deep (alone top)
  unfolding HasNodes Names
  has_pyramid now rs deep few named s = (p.names now rs deep few named s).1

  pub makes_pyramid : MakesPyramid leaves top more
  unfolding leaves_of entry_leaves InOrder AreInOrder NextsAreZero LowerAreZero AreTight EntriesTight
  makes_pyramid =
      let full = λ (k : ℕ). subst FullFromLeft (sym (at k)) (rows leaves (top ∷ []) more l k).0 in
      let even : (k : ℕ) → (nodes_at (suc k) (alone top) ≡ []) ⊎ (length (nodes_at (suc k) (alone top)) ≡ sum (map (λ pair. pair.1) (nodes_at k (alone top)))) = λ k. rw (at k, at (suc k)) (rows leaves (top ∷ []) more l k).1 in
      let order : (high : ℕ) → AreInOrder 0 high (entries_for leaves) → InOrder 0 high (alone top) = λ high o. ((parts_in_order 0 high top.entries no_entry (inner.order high o)).0, tt) in
      let high = tall leaves (top ∷ []) more l in
      let few : length leaves ≤ 2147483648 → length ((top ∷ []) ∷ more) ≤ 6 = λ few. omega (arith, (high few).1.0) in
      let fewest : 1 ≤ length leaves → length leaves ≤ 2147483648 → length (nodes_of (alone top)) ≡ nodes_above 8 (length leaves) = λ some few. omega (arith, nodes_are length length-append, length-map (from_below ((top ∷ []) ∷ more)) (λ (new : NewNode). new.place), (high few).1.2 some) in
      let places = λ (f : length leaves ≤ 2147483648). up 7 ∙ ap (λ (levels : List (List NewNode)). places_of (from_below levels)) (take_all 8 ((top ∷ []) ∷ more) (omega (arith, (high f).1.0))) in
      search (rules, sym (append-nil (leaves_of (alone top))) ∙ p.leaves_are, full, even, p.tight.1, order, p.zeros.0, few, fewest, places)

-- ---- lists with the same members

pub in_by_times : (xs ys : List ℕ) → ((m : ℕ) → times m xs ≡ times m ys) → (m : ℕ) → In m xs → In m ys
in_by_times xs ys same m i = in-times m ys (omega (arith, same m, times-in m xs i))
