-- A leaf has some of its records alone in an index, and maybe its block another place: nodes, leaves and order, and that one entry of one node changes.
use Rattle.cdf_blocks.proofs.Common.{Ascending, Distinct, Distinct-back, Distinct-front, Each, Each-split, Edit, Entries, In, In-append, In-append_left, In-append_right, IsOneOf, Leaf, List, Nodes, [], ap, ap₂, arith, block, cases_eq, each_of, entry_count, eq-eqb, eqb, false, if◌then◌else◌, inl, inr, link_to, lower, map, map-append, nat_tests, ne_eqb, no_entry, no_node, node, past_entries, places_of, refl, subst, suc, sym, times, times-append, top_chain, true, with_block, zero, ℕ, ◌++◌, ◌+◌, ◌<◌, ◌==◌, ◌∙◌, ◌∷◌, ◌≡◌, ◌≢◌, ◌≤◌, ◌⊎◌}
unfoldable use Rattle.cdf_blocks.proofs.Common.{AreInOrder, InOrder, entry_leaves, leaves_of, lower_nodes, nodes_of, redo, redo_below, with_place, with_place_in, with_range, with_range_in}
use Rattle.cdf_blocks.proofs.Common.{entries_by, nodes_by}
use Rattle.cdf_blocks.specs.Blocks.{LiesIn}

-- ---- nodes

pub nodes_stay : (start : ℕ) (new : Leaf) (ns : Nodes) → nodes_of (with_range start new ns) ≡ nodes_of ns
unfolding with_range with_range_in nodes_of lower_nodes
nodes_stay start new = nodes_by (λ es. lower_nodes (with_range_in start new es) ≡ lower_nodes es) (grind (arith, nat_tests))

pub count_stays : (start : ℕ) (new : Leaf) (es : Entries) → entry_count (with_range_in start new es) ≡ entry_count es
unfolding with_range with_range_in
count_stays start new = entries_by (grind (arith, nat_tests))

pub top_stays : (start : ℕ) (new : Leaf) (ns : Nodes) → top_chain (with_range start new ns) ≡ top_chain ns
unfolding with_range
top_stays start new no_node = refl
top_stays start new (node place room es more) = ap (λ (xs : List ℕ). place ∷ xs) (top_stays start new more)

-- ---- how many leaves have a First

abbrev pub firsts : List Leaf → List ℕ
firsts ls = map (λ (l : Leaf). l.first) ls

abbrev pub count : ℕ → List Leaf → ℕ
count f ls = times f (firsts ls)

pub count_both : (f : ℕ) (xs ys : List Leaf) → count f (xs ++ ys) ≡ count f xs + count f ys
count_both f xs ys = ap (times f) (map-append (λ (l : Leaf). l.first) xs ys) ∙ times-append f (firsts xs) (firsts ys)

count_below : (f low upto : ℕ) (ls : List Leaf) → Ascending low upto ls → f < low → count f ls ≡ 0
count_below f low upto [] a lt = refl
count_below f low upto (l ∷ ls) a lt = grind (arith, nat_tests, a, lt, count_below f (suc l.last) upto ls a.3)

-- in order each First stands once
pub count_once : (f low upto : ℕ) (ls : List Leaf) → Ascending low upto ls → count f ls ≤ 1
count_once f low upto [] a = omega arith
count_once f low upto (l ∷ ls) a = grind (arith, nat_tests, a, count_below f (suc l.last) upto ls a.3, count_once f (suc l.last) upto ls a.3)

pub count_some : (ls : List Leaf) (l : Leaf) → IsOneOf ls l → 1 ≤ count l.first ls
count_some [] l i = absurd i
count_some (x ∷ xs) l i = grind (arith, nat_tests, i, count_some xs l)

-- ---- leaves

abbrev pub placed : ℕ → Leaf → Leaf → Leaf
placed start new l = if l.first == start then new else l

abbrev pub all_placed : ℕ → Leaf → List Leaf → List Leaf
all_placed start new ls = map (placed start new) ls

both_placed : (start : ℕ) (new : Leaf) (xs ys : List Leaf) → all_placed start new (xs ++ ys) ≡ all_placed start new xs ++ all_placed start new ys
both_placed start new xs ys = map-append (placed start new) xs ys

none_placed : (start : ℕ) (new : Leaf) (ls : List Leaf) → count start ls ≡ 0 → all_placed start new ls ≡ ls
none_placed start new [] z = refl
none_placed start new (l ∷ ls) z = grind (arith, nat_tests, z, none_placed start new ls)

pub absent : (start : ℕ) (new : Leaf) (ns : Nodes) → count start (leaves_of ns) ≡ 0 → with_range start new ns ≡ ns
unfolding with_range with_range_in leaves_of entry_leaves
absent start new = nodes_by (λ es. count start (entry_leaves es) ≡ 0 → with_range_in start new es ≡ es) (grind (arith, nat_tests, count_both))

pub leaves_placed : (start : ℕ) (new : Leaf) (ns : Nodes) → count start (leaves_of ns) ≤ 1 → leaves_of (with_range start new ns) ≡ all_placed start new (leaves_of ns)
unfolding with_range with_range_in leaves_of entry_leaves
leaves_placed start new = nodes_by (λ es. count start (entry_leaves es) ≤ 1 → entry_leaves (with_range_in start new es) ≡ all_placed start new (entry_leaves es)) (grind (arith, nat_tests, count_both, both_placed, none_placed))

-- ---- order

-- the leaf with this First has the records of the new one
abbrev pub Lies : ℕ → Leaf → Leaf → Type 0
Lies start new l = l.first ≡ start → LiesIn l new.first new.last

past_earlier : (low' low : ℕ) (es : Entries) → low' ≤ low → past_entries low' es ≤ past_entries low es
past_earlier low' low no_entry le = le
past_earlier low' low (block f l p k es) le = omega arith
past_earlier low' low (lower f l ns es) le = omega arith

entries_earlier : (low' low high : ℕ) (es : Entries) → low' ≤ low → AreInOrder low high es → AreInOrder low' high es
unfolding AreInOrder
entries_earlier low' low high no_entry le o = tt
entries_earlier low' low high (block f l p k es) le o = (omega (arith, o.0), o.1, o.2, o.3)
entries_earlier low' low high (lower f l ns es) le o = (omega (arith, o.0), o.1, o.2, o.3, o.4)

order_earlier : (low' low high : ℕ) (ns : Nodes) → low' ≤ low → InOrder low high ns → InOrder low' high ns
unfolding InOrder
order_earlier low' low high no_node le o = tt
order_earlier low' low high (node place room es more) le o = (entries_earlier low' low high es le o.0, order_earlier (past_entries low' es) (past_entries low es) high more (past_earlier low' low es le) o.1)

past_placed : (start : ℕ) (new : Leaf) (low : ℕ) (es : Entries) → Each (Lies start new) (entry_leaves es) → past_entries low (with_range_in start new es) ≤ past_entries low es
unfolding with_range_in entry_leaves
past_placed start new low no_entry e = omega arith
past_placed start new low (block f l p k es) e = elim (cases_eq f start) [
  | inl q ↦ rw (eq-eqb f start q) (past_earlier (suc new.last) (suc l) es (omega (arith, (e.0 q).ends)))
  | inr ne ↦ rw (ne_eqb f start ne) (past_placed start new (suc l) es e.1)
]
past_placed start new low (lower f l ns es) e = past_placed start new (suc l) es (Each-split (Lies start new) (leaves_of ns) (entry_leaves es) e).1

mutual
  unfolding with_range with_range_in leaves_of entry_leaves InOrder AreInOrder

  pub order_placed : (start : ℕ) (new : Leaf) (low high : ℕ) (ns : Nodes) → InOrder low high ns → Each (Lies start new) (leaves_of ns) → InOrder low high (with_range start new ns)
  order_placed start new low high no_node o e = tt
  order_placed start new low high (node place room es more) o e =
      let each = Each-split (Lies start new) (entry_leaves es) (leaves_of more) e in
      (entries_placed start new low high es o.0 each.0, order_earlier (past_entries low (with_range_in start new es)) (past_entries low es) high (with_range start new more) (past_placed start new low es each.0) (order_placed start new (past_entries low es) high more o.1 each.1))

  entries_placed : (start : ℕ) (new : Leaf) (low high : ℕ) (es : Entries) → AreInOrder low high es → Each (Lies start new) (entry_leaves es) → AreInOrder low high (with_range_in start new es)
  entries_placed start new low high no_entry o e = tt
  entries_placed start new low high (block f l p k es) o e = elim (cases_eq f start) [
    | inl q ↦ let lies = e.0 q in rw (eq-eqb f start q) (omega (arith, o.0, lies.begins), lies.ordered, omega (arith, o.2, lies.ends), entries_earlier (suc new.last) (suc l) high es (omega (arith, lies.ends)) o.3)
    | inr ne ↦ rw (ne_eqb f start ne) (o.0, o.1, o.2, entries_placed start new (suc l) high es o.3 e.1)
  ]
  entries_placed start new low high (lower f l ns es) o e =
      let each = Each-split (Lies start new) (leaves_of ns) (entry_leaves es) e in
      (o.0, o.1, o.2, order_placed start new f l ns o.3 each.0, entries_placed start new (suc l) high es o.4 each.1)

pub lies_by : (low upto : ℕ) (ls : List Leaf) (old new : Leaf) → Ascending low upto ls → IsOneOf ls old → LiesIn old new.first new.last → Each (Lies old.first new) ls
lies_by low upto [] old new a i lies = tt
lies_by low upto (x ∷ xs) old new a (inl q) lies = ((λ e. subst (λ (y : Leaf). LiesIn y new.first new.last) (sym q) lies), each_of (Lies old.first new) xs (λ y j e. absurd (omega (arith, count_some xs y j, count_below old.first (suc x.last) upto xs a.3 (grind (arith, q, a.1)), ap (λ (n : ℕ). count n xs) e))))
lies_by low upto (x ∷ xs) old new a (inr i) lies = ((λ e. absurd (omega (arith, count_some xs old i, count_below old.first (suc x.last) upto xs a.3 (omega (arith, e, a.1))))), lies_by (suc x.last) upto xs old new a.3 i lies)

-- ---- a leaf that has all its records

-- only the place is another one
pub with_range_is : (new : Leaf) (ns : Nodes) → with_range new.first new ns ≡ with_place new ns
unfolding with_range with_range_in with_place with_place_in
with_range_is new = nodes_by (λ es. with_range_in new.first new es ≡ with_place_in new es) (grind (arith, nat_tests))

-- where the place is the same, the index is
same_range : (old : Leaf) (ns : Nodes) → Each (λ (l : Leaf). l.first ≡ old.first → l ≡ old) (leaves_of ns) → with_range old.first old ns ≡ ns
unfolding with_range with_range_in leaves_of entry_leaves
same_range old = nodes_by (λ es. Each (λ (l : Leaf). l.first ≡ old.first → l ≡ old) (entry_leaves es) → with_range_in old.first old es ≡ es) (grind (arith, nat_tests, Each-split (λ (l : Leaf). l.first ≡ old.first → l ≡ old)))

one_first : (low upto : ℕ) (ls : List Leaf) (old : Leaf) → Ascending low upto ls → IsOneOf ls old → Each (λ (l : Leaf). l.first ≡ old.first → l ≡ old) ls
one_first low upto [] old a i = tt
one_first low upto (x ∷ xs) old a (inl q) = ((λ e. q), each_of (λ (l : Leaf). l.first ≡ old.first → l ≡ old) xs (λ y j e. absurd (omega (arith, count_some xs y j, count_below old.first (suc x.last) upto xs a.3 (grind (arith, q, a.1)), ap (λ (n : ℕ). count n xs) e))))
one_first low upto (x ∷ xs) old a (inr i) = ((λ e. absurd (omega (arith, count_some xs old i, count_below old.first (suc x.last) upto xs a.3 (omega (arith, e, a.1))))), one_first (suc x.last) upto xs old a.3 i)

pub range_same : (low upto : ℕ) (old : Leaf) (ns : Nodes) → Ascending low upto (leaves_of ns) → IsOneOf (leaves_of ns) old → with_range old.first old ns ≡ ns
range_same low upto old ns a i = same_range old ns (one_first low upto (leaves_of ns) old a i)

-- ---- one entry of one node

-- the entry with a number names another block
abbrev pub swapped : ℕ → Leaf → Entries → Entries
swapped n new no_entry = no_entry
swapped zero new (block f l p k es) = with_block new es
swapped zero new (lower f l ns es) = lower f l ns es
swapped (suc n) new (block f l p k es) = block f l p k (swapped n new es)
swapped (suc n) new (lower f l ns es) = lower f l ns (swapped n new es)

abbrev pub swapping : Leaf → ℕ → ℕ → Edit
swapping new at i room es more = node at room (swapped i new es) more

-- the entry with a number names a block, with this First
abbrev pub NamesBlock : ℕ → ℕ → Entries → Type 0
NamesBlock f n no_entry = ⊥
NamesBlock f zero (block first l p k es) = first ≡ f
NamesBlock f zero (lower first l ns es) = ⊥
NamesBlock f (suc n) (block first l p k es) = NamesBlock f n es
NamesBlock f (suc n) (lower first l ns es) = NamesBlock f n es

unfoldable mutual
  -- so does each node of this place
  pub NodeNames : ℕ → ℕ → ℕ → Nodes → Type 0
  NodeNames f n at no_node = Unit {0}
  NodeNames f n at (node place room es more) = (place ≡ at → NamesBlock f n es) × BelowName f n at es × NodeNames f n at more

  pub BelowName : ℕ → ℕ → ℕ → Entries → Type 0
  BelowName f n at no_entry = Unit {0}
  BelowName f n at (block first l p k es) = BelowName f n at es
  BelowName f n at (lower first l ns es) = NodeNames f n at ns × BelowName f n at es

one_there : (f n : ℕ) (es : Entries) → NamesBlock f n es → 1 ≤ count f (entry_leaves es)
unfolding entry_leaves
one_there f n no_entry h = absurd h
one_there f zero (block first l p k es) h = grind (arith, nat_tests, h)
one_there f zero (lower first l ns es) h = absurd h
one_there f (suc n) (block first l p k es) h = grind (arith, nat_tests, one_there f n es h)
one_there f (suc n) (lower first l ns es) h = omega (arith, one_there f n es h, count_both f (leaves_of ns) (entry_leaves es))

mutual
  unfolding NodeNames BelowName nodes_of lower_nodes leaves_of entry_leaves

  some_there : (f n at : ℕ) (ns : Nodes) → NodeNames f n at ns → In at (nodes_of ns) → 1 ≤ count f (leaves_of ns)
  some_there f n at no_node h i = absurd i
  some_there f n at (node place room es more) h (inl q) = omega (arith, one_there f n es (h.0 (sym q)), count_both f (entry_leaves es) (leaves_of more))
  some_there f n at (node place room es more) h (inr i) = elim (In-append at (lower_nodes es) (nodes_of more) i) [
    | inl j ↦ omega (arith, some_below f n at es h.1 j, count_both f (entry_leaves es) (leaves_of more))
    | inr j ↦ omega (arith, some_there f n at more h.2 j, count_both f (entry_leaves es) (leaves_of more))
  ]

  some_below : (f n at : ℕ) (es : Entries) → BelowName f n at es → In at (lower_nodes es) → 1 ≤ count f (entry_leaves es)
  some_below f n at no_entry h i = absurd i
  some_below f n at (block first l p k es) h i = grind (arith, nat_tests, some_below f n at es h i)
  some_below f n at (lower first l ns es) h i = elim (In-append at (nodes_of ns) (lower_nodes es) i) [
    | inl j ↦ omega (arith, some_there f n at ns h.0 j, count_both f (leaves_of ns) (entry_leaves es))
    | inr j ↦ omega (arith, some_below f n at es h.1 j, count_both f (leaves_of ns) (entry_leaves es))
  ]

swapped_is : (start : ℕ) (new : Leaf) (n : ℕ) (es : Entries) → NamesBlock start n es → count start (entry_leaves es) ≤ 1 → swapped n new es ≡ with_range_in start new es
unfolding entry_leaves with_range_in
swapped_is start new n no_entry h one = refl
swapped_is start new zero (block f l p k es) h one = grind (arith, nat_tests, h)
swapped_is start new zero (lower f l ns es) h one = absurd h
swapped_is start new (suc n) (block f l p k es) h one = grind (arith, nat_tests, one, one_there start n es h, swapped_is start new n es h)
swapped_is start new (suc n) (lower f l ns es) h one = grind (arith, one, count_both start (leaves_of ns) (entry_leaves es), absent start new ns, one_there start n es h, swapped_is start new n es h)

Distinct-apart : (xs ys : List ℕ) → Distinct (xs ++ ys) → (m : ℕ) → In m xs → In m ys → ⊥
Distinct-apart [] ys d m i j = absurd i
Distinct-apart (x ∷ xs) ys d m (inl q) j = d.0 (In-append_right x xs ys (subst (λ (z : ℕ). In z ys) q j))
Distinct-apart (x ∷ xs) ys d m (inr i) j = Distinct-apart xs ys d.1 m i j

redo_out : (at : ℕ) (edit : Edit) (ns : Nodes) → (In at (nodes_of ns) → ⊥) → redo at edit ns ≡ ns
unfolding redo redo_below nodes_of lower_nodes
redo_out at edit = nodes_by (λ es. (In at (lower_nodes es) → ⊥) → redo_below at edit es ≡ es) (grind (arith, nat_tests, In-append_left, In-append_right))

below_out : (at : ℕ) (edit : Edit) (es : Entries) → (In at (lower_nodes es) → ⊥) → redo_below at edit es ≡ es
unfolding redo redo_below nodes_of lower_nodes
below_out at edit no_entry out = refl
below_out at edit (block f l p k es) out = ap (λ (xs : Entries). block f l p k xs) (below_out at edit es out)
below_out at edit (lower f l ns es) out = ap₂ (λ (xs : Nodes) (ys : Entries). lower f l xs ys) (redo_out at edit ns (λ i. out (In-append_left at (nodes_of ns) (lower_nodes es) i))) (below_out at edit es (λ i. out (In-append_right at (nodes_of ns) (lower_nodes es) i)))

absent_below : (start : ℕ) (new : Leaf) (es : Entries) → count start (entry_leaves es) ≡ 0 → with_range_in start new es ≡ es
unfolding with_range with_range_in leaves_of entry_leaves
absent_below start new no_entry z = refl
absent_below start new (block f l p k es) z = grind (arith, nat_tests, z, absent_below start new es)
absent_below start new (lower f l ns es) z = let all = count_both start (leaves_of ns) (entry_leaves es) in ap₂ (λ (xs : Nodes) (ys : Entries). lower f l xs ys) (absent start new ns (omega (arith, all, z))) (absent_below start new es (omega (arith, all, z)))

mutual
  unfolding NodeNames BelowName nodes_of lower_nodes leaves_of entry_leaves redo redo_below with_range with_range_in

  -- the node at a place, one of whose entries names the block, is the one that changes
  pub swapping_is : (start : ℕ) (new : Leaf) (at i : ℕ) (ns : Nodes) → NodeNames start i at ns → Distinct (nodes_of ns) → count start (leaves_of ns) ≤ 1 → In at (nodes_of ns) → redo at (swapping new at i) ns ≡ with_range start new ns
  swapping_is start new at i no_node h d one j = absurd j
  swapping_is start new at i (node place room es more) h d one j = elim (cases_eq place at) [
    | inl e ↦
        let here = h.0 e in
        let some = one_there start i es here in
        let all = count_both start (entry_leaves es) (leaves_of more) in
        let test : eqb place at ≡ true = eq-eqb place at e in
        rw test (ap₂ (λ (xs : Entries) (ys : Nodes). node at room xs ys) (swapped_is start new i es here (omega (arith, all, one))) (sym (absent start new more (omega (arith, all, one, some)))) ∙ ap (λ (p : ℕ). node p room (with_range_in start new es) (with_range start new more)) (sym e))
    | inr ne ↦
        let test : eqb place at ≡ false = ne_eqb place at ne in
        let all = count_both start (entry_leaves es) (leaves_of more) in
        rw test (elim j [
          | inl q ↦ absurd (ne (sym q))
          | inr k ↦ elim (In-append at (lower_nodes es) (nodes_of more) k) [
            | inl y ↦
                let some = some_below start i at es h.1 y in
                let out : In at (nodes_of more) → ⊥ = λ z. Distinct-apart (lower_nodes es) (nodes_of more) d.1 at y z in
                ap₂ (λ (xs : Entries) (ys : Nodes). node place room xs ys) (swapping_below start new at i es h.1 (Distinct-front (lower_nodes es) (nodes_of more) d.1) (omega (arith, all, one)) y) (redo_out at (swapping new at i) more out ∙ sym (absent start new more (omega (arith, all, one, some))))
            | inr y ↦
                let some = some_there start i at more h.2 y in
                let out : In at (lower_nodes es) → ⊥ = λ z. Distinct-apart (lower_nodes es) (nodes_of more) d.1 at z y in
                ap₂ (λ (xs : Entries) (ys : Nodes). node place room xs ys) (below_out at (swapping new at i) es out ∙ sym (absent_below start new es (omega (arith, all, one, some)))) (swapping_is start new at i more h.2 (Distinct-back (lower_nodes es) (nodes_of more) d.1) (omega (arith, all, one)) y)
          ]
        ])
  ]

  pub swapping_below : (start : ℕ) (new : Leaf) (at i : ℕ) (es : Entries) → BelowName start i at es → Distinct (lower_nodes es) → count start (entry_leaves es) ≤ 1 → In at (lower_nodes es) → redo_below at (swapping new at i) es ≡ with_range_in start new es
  swapping_below start new at i no_entry h d one j = absurd j
  swapping_below start new at i (block f l p k es) h d one j =
      let some = some_below start i at es h j in
      let other : eqb f start ≡ false = grind (arith, nat_tests, one, some) in
      rw other (ap (λ (xs : Entries). block f l p k xs) (swapping_below start new at i es h d (grind (arith, nat_tests, one)) j))
  swapping_below start new at i (lower f l ns es) h d one j =
      let all = count_both start (leaves_of ns) (entry_leaves es) in
      elim (In-append at (nodes_of ns) (lower_nodes es) j) [
        | inl y ↦
            let some = some_there start i at ns h.0 y in
            let out : In at (lower_nodes es) → ⊥ = λ z. Distinct-apart (nodes_of ns) (lower_nodes es) d at y z in
            ap₂ (λ (xs : Nodes) (ys : Entries). lower f l xs ys) (swapping_is start new at i ns h.0 (Distinct-front (nodes_of ns) (lower_nodes es) d) (omega (arith, all, one)) y) (below_out at (swapping new at i) es out ∙ sym (absent_below start new es (omega (arith, all, one, some))))
        | inr y ↦
            let some = some_below start i at es h.1 y in
            let out : In at (nodes_of ns) → ⊥ = λ z. Distinct-apart (nodes_of ns) (lower_nodes es) d at z y in
            ap₂ (λ (xs : Nodes) (ys : Entries). lower f l xs ys) (redo_out at (swapping new at i) ns out ∙ sym (absent start new ns (omega (arith, all, one, some)))) (swapping_below start new at i es h.1 (Distinct-back (nodes_of ns) (lower_nodes es) d) (omega (arith, all, one)) y)
      ]

pub link_stays : (start : ℕ) (new : Leaf) (ns : Nodes) → link_to (with_range start new ns) ≡ link_to ns
unfolding with_range
link_stays start new no_node = refl
link_stays start new (node place room es more) = refl

-- ---- the leaves once more, one by one

-- one of them is the new one, or has another First
pub one_placed : (start : ℕ) (new : Leaf) (ls : List Leaf) (l : Leaf) → IsOneOf (all_placed start new ls) l → (l ≡ new) ⊎ (IsOneOf ls l × (l.first ≢ start))
one_placed start new [] l i = absurd i
one_placed start new (x ∷ xs) l i = grind (arith, nat_tests, i, one_placed start new xs l)

pub new_placed : (old new : Leaf) (ls : List Leaf) → IsOneOf ls old → IsOneOf (all_placed old.first new ls) new
new_placed old new [] i = absurd i
new_placed old new (x ∷ xs) i = grind (arith, nat_tests, i, new_placed old new xs)

pub places_times : (old new : Leaf) (ls : List Leaf) (m : ℕ) → IsOneOf ls old → count old.first ls ≤ 1 → times m (places_of (all_placed old.first new ls)) + times m (old.place ∷ []) ≡ times m (places_of ls) + times m (new.place ∷ [])
places_times old new [] m i one = absurd i
places_times old new (x ∷ xs) m (inl q) one = grind (arith, nat_tests, q, one, none_placed old.first new xs)
places_times old new (x ∷ xs) m (inr i) one = grind (arith, nat_tests, one, count_some xs old i, places_times old new xs m i)
