-- The Firsts of an index, and how wide its nodes are, once records are cut out of it and later ones keep their numbers.
use Rattle.cdf_cuts.proofs.Common.{Bool, Entries, In, In-append, In-append_left, In-append_right, Leaf, List, Nodes, Range, [], arith, block, cases_lt, entry_leaves, false, inl, inr, le-ltb, leaves_of, lower, lt-ltb, no_entry, no_node, node, past_entries, range, refl, subst, suc, ℕ, ◌++◌, ◌+◌, ◌<◌, ◌∷◌, ◌≡◌, ◌≤◌, ◌⊎◌, nat_lt}
use Rattle.std.specs.Prelude.{max, min}
use Rattle.std.specs.List.{filter, fold}
use Rattle.cdf_edits.proofs.Common.{record_number_limit}
use Rattle.cdf_edits.proofs.Edits.LeafPieces.{IsOneOf}
use Rattle.cdf_edits.specs.Index.Blocks.{next_first}
unfoldable use Rattle.cdf_edits.specs.Index.Blocks.{entry_firsts, firsts_of}
unfoldable use Rattle.cdf_edits.specs.Commands.Room.{widest, widest_below}
unfoldable use Rattle.cdf_edits.specs.Index.Grown.{cut_entries, cut_nodes}
use Rattle.cdf_edits.specs.Index.Grown.{block_if, kept_open, lower_if, node_if}
unfoldable use Rattle.cdf_index.specs.Order.{AreInOrder, InOrder}
use Rattle.cdf_index.proofs.OrderLemmas.{end_after}

one_of_both : (xs ys : List Leaf) (l : Leaf) → IsOneOf (xs ++ ys) l → IsOneOf xs l ⊎ IsOneOf ys l
one_of_both [] ys l i = inr i
one_of_both (x ∷ xs) ys l (inl q) = inl (inl q)
one_of_both (x ∷ xs) ys l (inr i) = elim (one_of_both xs ys l i) [ inl j ↦ inl (inr j) | inr j ↦ inr j ]

-- ---- where the Firsts and the leaves of an index lie

abbrev Between : ℕ → ℕ → ℕ → ℕ → Type 0
Between low end high f = (low ≤ f) × ((f < end) × (f ≤ high))

mutual
  unfolding InOrder AreInOrder firsts_of entry_firsts

  first_within : (low high : ℕ) (ns : Nodes) → InOrder low high ns → (f : ℕ) → In f (firsts_of ns) → (low ≤ f) × (f ≤ high)
  first_within low high no_node o f i = absurd i
  first_within low high (node place room es more) o f i =
      let e = end_after low high es o.0 in
      elim (In-append f (entry_firsts es) (firsts_of more) i) [
        | inl j ↦ (let r = entry_within low high es o.0 f j in (r.0, r.1.1))
        | inr j ↦ (let r = first_within (past_entries low es) high more o.1 f j in (omega (arith, r.0), r.1))
      ]

  entry_within : (low high : ℕ) (es : Entries) → AreInOrder low high es → (f : ℕ) → In f (entry_firsts es) → Between low (past_entries low es) high f
  entry_within low high no_entry o f i = absurd i
  entry_within low high (block first last place packed es) o f i =
      let e = end_after (suc last) high es o.3 in
      let a = o.0 in
      let m = o.1 in
      let h = o.2 in
      elim i [
        | inl q ↦ (omega (arith, q), (omega (arith, q), omega (arith, q)))
        | inr j ↦ (let r = entry_within (suc last) high es o.3 f j in (omega (arith, r.0), (r.1.0, r.1.1)))
      ]
  entry_within low high (lower first last nodes es) o f i =
      let e = end_after (suc last) high es o.4 in
      let a = o.0 in
      let m = o.1 in
      let h = o.2 in
      elim i [
        | inl q ↦ (omega (arith, q), (omega (arith, q), omega (arith, q)))
        | inr k ↦ elim (In-append f (firsts_of nodes) (entry_firsts es) k) [
          | inl j ↦ (let r = first_within first last nodes o.3 f j in (omega (arith, r.0), (omega (arith, r.1), omega (arith, r.1))))
          | inr j ↦ (let r = entry_within (suc last) high es o.4 f j in (omega (arith, r.0), (r.1.0, r.1.1)))
        ]
      ]

mutual
  unfolding InOrder AreInOrder leaves_of entry_leaves

  leaf_within : (low high : ℕ) (ns : Nodes) → InOrder low high ns → (l : Leaf) → IsOneOf (leaves_of ns) l → (low ≤ l.first) × (l.last ≤ high)
  leaf_within low high no_node o l i = absurd i
  leaf_within low high (node place room es more) o l i =
      let e = end_after low high es o.0 in
      elim (one_of_both (entry_leaves es) (leaves_of more) l i) [
        | inl j ↦ (let r = below_within low high es o.0 l j in (r.0, r.1.1))
        | inr j ↦ (let r = leaf_within (past_entries low es) high more o.1 l j in (omega (arith, r.0), r.1))
      ]

  below_within : (low high : ℕ) (es : Entries) → AreInOrder low high es → (l : Leaf) → IsOneOf (entry_leaves es) l → (low ≤ l.first) × ((l.last < past_entries low es) × (l.last ≤ high))
  below_within low high no_entry o l i = absurd i
  below_within low high (block first last place packed es) o l i =
      let e = end_after (suc last) high es o.3 in
      let a = o.0 in
      let m = o.1 in
      let h = o.2 in
      elim i [
        | inl q ↦ subst (λ (y : Leaf). (low ≤ y.first) × ((y.last < past_entries (suc last) es) × (y.last ≤ high))) q (a, (omega arith, h))
        | inr j ↦ (let r = below_within (suc last) high es o.3 l j in (omega (arith, r.0), (r.1.0, r.1.1)))
      ]
  below_within low high (lower first last nodes es) o l i =
      let e = end_after (suc last) high es o.4 in
      let a = o.0 in
      let m = o.1 in
      let h = o.2 in
      elim (one_of_both (leaves_of nodes) (entry_leaves es) l i) [
        | inl j ↦ (let r = leaf_within first last nodes o.3 l j in (omega (arith, r.0), (omega (arith, r.1), omega (arith, r.1))))
        | inr j ↦ (let r = below_within (suc last) high es o.4 l j in (omega (arith, r.0), (r.1.0, r.1.1)))
      ]

-- ---- a First is at most that of a leaf, or it is behind its last record

abbrev Beside : Leaf → ℕ → Type 0
Beside l f = (f ≤ l.first) ⊎ (l.last < f)

mutual
  unfolding InOrder AreInOrder firsts_of entry_firsts leaves_of entry_leaves

  pub first_beside : (low high : ℕ) (ns : Nodes) → InOrder low high ns → (l : Leaf) → IsOneOf (leaves_of ns) l → (f : ℕ) → In f (firsts_of ns) → Beside l f
  first_beside low high no_node o l i f j = absurd i
  first_beside low high (node place room es more) o l i f j = elim (one_of_both (entry_leaves es) (leaves_of more) l i) [
    | inl i' ↦ elim (In-append f (entry_firsts es) (firsts_of more) j) [
      | inl j' ↦ entry_beside low high es o.0 l i' f j'
      | inr j' ↦ inr (omega (arith, (below_within low high es o.0 l i').1.0, (first_within (past_entries low es) high more o.1 f j').0))
    ]
    | inr i' ↦ elim (In-append f (entry_firsts es) (firsts_of more) j) [
      | inl j' ↦ inl (omega (arith, (leaf_within (past_entries low es) high more o.1 l i').0, (entry_within low high es o.0 f j').1.0))
      | inr j' ↦ first_beside (past_entries low es) high more o.1 l i' f j'
    ]
  ]

  entry_beside : (low high : ℕ) (es : Entries) → AreInOrder low high es → (l : Leaf) → IsOneOf (entry_leaves es) l → (f : ℕ) → In f (entry_firsts es) → Beside l f
  entry_beside low high no_entry o l i f j = absurd i
  entry_beside low high (block first last place packed es) o l i f j = elim i [
    | inl q ↦ subst (λ (y : Leaf). Beside y f) q (elim j [ inl e ↦ inl (omega (arith, e)) | inr j' ↦ inr (omega (arith, (entry_within (suc last) high es o.3 f j').0)) ])
    | inr i' ↦ elim j [ inl e ↦ inl (omega (arith, e, o.1, (below_within (suc last) high es o.3 l i').0)) | inr j' ↦ entry_beside (suc last) high es o.3 l i' f j' ]
  ]
  entry_beside low high (lower first last nodes es) o l i f j =
      let m = o.1 in
      elim (one_of_both (leaves_of nodes) (entry_leaves es) l i) [
        | inl i' ↦ elim j [
          | inl e ↦ inl (omega (arith, e, (leaf_within first last nodes o.3 l i').0))
          | inr k ↦ elim (In-append f (firsts_of nodes) (entry_firsts es) k) [
            | inl j' ↦ first_beside first last nodes o.3 l i' f j'
            | inr j' ↦ inr (omega (arith, (leaf_within first last nodes o.3 l i').1, (entry_within (suc last) high es o.4 f j').0))
          ]
        ]
        | inr i' ↦ elim j [
          | inl e ↦ inl (omega (arith, e, (below_within (suc last) high es o.4 l i').0))
          | inr k ↦ elim (In-append f (firsts_of nodes) (entry_firsts es) k) [
            | inl j' ↦ inl (omega (arith, (below_within (suc last) high es o.4 l i').0, (first_within first last nodes o.3 f j').1))
            | inr j' ↦ entry_beside (suc last) high es o.4 l i' f j'
          ]
        ]
      ]

-- ---- the Firsts of what is left

firsts_node : (place room : ℕ) (es : Entries) (more : Nodes) → firsts_of (node_if place room es more) ≡ entry_firsts es ++ firsts_of more
unfolding firsts_of entry_firsts
firsts_node place room no_entry more = refl
firsts_node place room (block f l p packed es) more = refl
firsts_node place room (lower f l nodes es) more = refl

firsts_lower : (first last : ℕ) (nodes : Nodes) (es : Entries) (f : ℕ) → In f (entry_firsts (lower_if first last nodes es)) → (f ≡ first) ⊎ In f (firsts_of nodes ++ entry_firsts es)
unfolding firsts_of entry_firsts
firsts_lower first last no_node es f i = inr i
firsts_lower first last (node place room entries more) es f i = i

module _ (first last : ℕ) where
  abbrev keep : Range → List Range
  keep = kept_open first last

  -- what is left of a block begins where it began, or behind the last record that goes
  firsts_block : (g l place : ℕ) (packed : Bool) (es : Entries) (f : ℕ) → In f (entry_firsts (block_if (keep (range g l)) place packed es)) → (f ≡ g) ⊎ ((f ≤ last + 1) ⊎ In f (entry_firsts es))
  unfolding entry_firsts
  firsts_block g l place packed es f i = elim (cases_lt g first) [
    | inl lt ↦ (let j : In f (g ∷ entry_firsts es) = rw (lt-ltb g first lt) at i in elim j [ inl q ↦ inl q | inr k ↦ inr (inr k) ])
    | inr low ↦ elim (cases_lt last l) [
      | inl gt ↦
          let j : In f (max g (last + 1) ∷ entry_firsts es) = rw (le-ltb g first low, lt-ltb last l gt) at i in
          elim j [
            | inl q ↦ elim (cases_lt last g) [ inl b ↦ inl (omega (arith, q)) | inr b ↦ inr (inl (omega (arith, q))) ]
            | inr k ↦ inr (inr k)
          ]
      | inr le ↦ (let j : In f (entry_firsts es) = rw (le-ltb g first low, le-ltb last l le) at i in inr (inr j))
    ]
  ]

  mutual
    unfolding firsts_of entry_firsts cut_nodes cut_entries

    pub firsts_left : (ns : Nodes) (f : ℕ) → In f (firsts_of (cut_nodes false keep ns)) → In f (firsts_of ns) ⊎ (f ≤ last + 1)
    firsts_left no_node f i = absurd i
    firsts_left (node place room es more) f i = elim (In-append f (entry_firsts (cut_entries false keep es)) (firsts_of (cut_nodes false keep more)) (subst (In f) (firsts_node place room (cut_entries false keep es) (cut_nodes false keep more)) i)) [
      | inl j ↦ elim (firsts_left_below es f j) [ inl k ↦ inl (In-append_left f (entry_firsts es) (firsts_of more) k) | inr le ↦ inr le ]
      | inr j ↦ elim (firsts_left more f j) [ inl k ↦ inl (In-append_right f (entry_firsts es) (firsts_of more) k) | inr le ↦ inr le ]
    ]

    firsts_left_below : (es : Entries) (f : ℕ) → In f (entry_firsts (cut_entries false keep es)) → In f (entry_firsts es) ⊎ (f ≤ last + 1)
    firsts_left_below no_entry f i = absurd i
    firsts_left_below (block g l place packed es) f i = elim (firsts_block g l place packed (cut_entries false keep es) f i) [
      | inl q ↦ inl (inl q)
      | inr x ↦ elim x [ inl le ↦ inr le | inr j ↦ elim (firsts_left_below es f j) [ inl k ↦ inl (inr k) | inr le ↦ inr le ] ]
    ]
    firsts_left_below (lower g l nodes es) f i = elim (firsts_lower g l (cut_nodes false keep nodes) (cut_entries false keep es) f i) [
      | inl q ↦ inl (inl q)
      | inr x ↦ elim (In-append f (firsts_of (cut_nodes false keep nodes)) (entry_firsts (cut_entries false keep es)) x) [
        | inl j ↦ elim (firsts_left nodes f j) [ inl k ↦ inl (inr (In-append_left f (firsts_of nodes) (entry_firsts es) k)) | inr le ↦ inr le ]
        | inr j ↦ elim (firsts_left_below es f j) [ inl k ↦ inl (inr (In-append_right f (firsts_of nodes) (entry_firsts es) k)) | inr le ↦ inr le ]
      ]
    ]

  -- ---- how wide the nodes are that are left

  wide_node : (place room : ℕ) (es : Entries) (more : Nodes) → widest (node_if place room es more) ≤ max room (max (widest_below es) (widest more))
  unfolding widest widest_below
  wide_node place room no_entry more = omega arith
  wide_node place room (block f l p packed es) more = omega arith
  wide_node place room (lower f l nodes es) more = omega arith

  wide_lower : (f l : ℕ) (nodes : Nodes) (es : Entries) → widest_below (lower_if f l nodes es) ≤ max (widest nodes) (widest_below es)
  unfolding widest widest_below
  wide_lower f l no_node es = omega arith
  wide_lower f l (node place room entries more) es = omega arith

  wide_block : (rs : List Range) (place : ℕ) (packed : Bool) (es : Entries) → widest_below (block_if rs place packed es) ≡ widest_below es
  unfolding widest_below
  wide_block [] place packed es = refl
  wide_block (r ∷ rest) place packed es = refl

  mutual
    unfolding widest widest_below cut_nodes cut_entries

    pub wide_left : (ns : Nodes) → widest (cut_nodes false keep ns) ≤ widest ns
    wide_left no_node = omega arith
    wide_left (node place room es more) = omega (arith, wide_node place room (cut_entries false keep es) (cut_nodes false keep more), wide_left_below es, wide_left more)

    wide_left_below : (es : Entries) → widest_below (cut_entries false keep es) ≤ widest_below es
    wide_left_below no_entry = omega arith
    wide_left_below (block f l place packed es) = omega (arith, wide_block (keep (range f l)) place packed (cut_entries false keep es), wide_left_below es)
    wide_left_below (lower f l nodes es) = omega (arith, wide_lower f l (cut_nodes false keep nodes) (cut_entries false keep es), wide_left nodes, wide_left_below es)

-- ---- the next First

next_past : (n m best : ℕ) (xs : List ℕ) → m < best → ((f : ℕ) → In f xs → (f ≤ n) ⊎ (m < f)) → m < fold min best (filter (nat_lt n) xs)
next_past n m best [] lt far = lt
next_past n m best (x ∷ xs) lt far = elim (cases_lt n x) [
  | inl gt ↦ rw (lt-ltb n x gt) (next_past n m (min best x) xs (elim (far x (inl refl)) [ inl le ↦ absurd (omega arith) | inr b ↦ omega (arith, lt, b) ]) (λ f i. far f (inr i)))
  | inr le ↦ rw (le-ltb n x le) (next_past n m best xs lt (λ f i. far f (inr i)))
]

-- once records go of which a leaf has some, no entry begins between the last of them and that of the leaf
pub next_left : (first last : ℕ) (ns : Nodes) → InOrder 0 record_number_limit ns → (l : Leaf) → IsOneOf (leaves_of ns) l → l.first ≤ last → l.last ≤ record_number_limit → l.last < next_first (last + 1) (firsts_of (cut_nodes false (kept_open first last) ns))
next_left first last ns o l i reaches small = next_past (last + 1) l.last (record_number_limit + 1) (firsts_of (cut_nodes false (kept_open first last) ns)) (omega (arith, small)) (λ f j. elim (firsts_left first last ns f j) [
  | inl k ↦ elim (first_beside 0 record_number_limit ns o l i f k) [ inl le ↦ inl (omega (arith, le, reaches)) | inr gt ↦ inr gt ]
  | inr le ↦ inl le
])
