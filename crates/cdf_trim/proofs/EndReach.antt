-- Of an index of which each block begins before some records, one entry alone reaches them, where it is known that it names a block that does: those before it end before it, and none is behind it.
use Rattle.cdf_cuts.proofs.Common.{Each, Each-split, Entries, HasNodes, In, In-append, IsNode, Leaf, List, Names, Nodes, SayEntries, SaysEntry, [], arith, block, cases_eq, cases_lt, entry_count, entry_leaves, inl, inr, is_linkable, leaves_of, link_to, lower, lower_nodes, no_entry, no_node, node, nodes_of, subst, suc, sym, true, used_count, vxr_type, zero, ℕ, ◌++◌, ◌+◌, ◌<◌, ◌∙◌, ◌∷◌, ◌≡◌, ◌≤◌, ◌⊎◌}
use Rattle.cdf_index.proofs.Common.{Ascending}
use Rattle.cdf_trim.proofs.EndShape.{Begins}
unfoldable use Rattle.cdf_trim.proofs.EndPlan.{EntriesReach, OnlyReach}

abbrev pub Ends : ℕ → Leaf → Type 0
Ends first l = l.last < first

-- ---- blocks in order

from_lower : (low low' upto : ℕ) (ls : List Leaf) → low ≤ low' → Ascending low' upto ls → Ascending low upto ls
from_lower low low' upto [] le a = tt
from_lower low low' upto (l ∷ ls) le a = (omega (arith, a.0), a.1, a.2, a.3)

pub front : (low upto : ℕ) (xs ys : List Leaf) → Ascending low upto (xs ++ ys) → Ascending low upto xs
front low upto [] ys a = tt
front low upto (x ∷ xs) ys a = (a.0, a.1, a.2, front (suc x.last) upto xs ys a.3)

pub back : (low upto : ℕ) (xs ys : List Leaf) → Ascending low upto (xs ++ ys) → Ascending low upto ys
back low upto [] ys a = a
back low upto (x ∷ xs) ys a = from_lower low (suc x.last) upto ys (omega (arith, a.0, a.1)) (back (suc x.last) upto xs ys a.3)

-- none is behind one that reaches the records that go
none_behind : (first low upto : ℕ) (ls : List Leaf) → first ≤ low → Ascending low upto ls → Each (Begins first) ls → Each (Ends first) ls
none_behind first low upto [] le a e = tt
none_behind first low upto (l ∷ ls) le a e = absurd (omega (arith, a.0, e.0))

pub either_ends : (first low upto : ℕ) (xs ys : List Leaf) → Ascending low upto (xs ++ ys) → Each (Begins first) ys → Each (Ends first) xs ⊎ Each (Ends first) ys
either_ends first low upto [] ys a e = inl tt
either_ends first low upto (x ∷ xs) ys a e = elim (cases_lt x.last first) [
  | inl lt ↦ elim (either_ends first (suc x.last) upto xs ys a.3 e) [ inl h ↦ inl (lt, h) | inr h ↦ inr h ]
  | inr ge ↦ inr (none_behind first (suc x.last) upto ys (omega (arith, ge)) (back (suc x.last) upto xs ys a.3) e)
]

-- ---- where all end before them, none reaches them

module _ (first : ℕ) (Here : ℕ → ℕ → Type 0) where
  mutual
    unfolding OnlyReach EntriesReach leaves_of entry_leaves

    pub none_reaches : (ns : Nodes) → Each (Ends first) (leaves_of ns) → OnlyReach first Here ns
    none_reaches no_node e = tt
    none_reaches (node place room es more) e = let parts = Each-split (Ends first) (entry_leaves es) (leaves_of more) e in (no_entry_reaches place 0 es parts.0, none_reaches more parts.1)

    pub no_entry_reaches : (place i : ℕ) (es : Entries) → Each (Ends first) (entry_leaves es) → EntriesReach first Here place i es
    no_entry_reaches place i no_entry e = tt
    no_entry_reaches place i (block f l at packed es) e = ((λ le. absurd (omega (arith, le, e.0))), no_entry_reaches place (suc i) es e.1)
    no_entry_reaches place i (lower f l ns es) e = let parts = Each-split (Ends first) (leaves_of ns) (entry_leaves es) e in (none_reaches ns parts.0, no_entry_reaches place (suc i) es parts.1)

-- ---- one entry names a block that does, and is the last one of its node

stands_at : (b records : List ℕ) (levels : ℕ) (ns : Nodes) → IsNode ns → HasNodes b records levels ns → is_linkable b records vxr_type (link_to ns) ≡ true
unfolding HasNodes
stands_at b records levels no_node i h = absurd i
stands_at b records zero (node place room es more) i h = absurd h
stands_at b records (suc levels) (node place room es more) i h = h.0.linkable

abbrev pub At : ℕ → ℕ → ℕ → ℕ → Type 0
At own number place i = (place ≡ own) × (i ≡ number)

module _ (records : List ℕ) {b : List ℕ} {first own number f' l' at' : ℕ} (says : SaysEntry b own number f' l' at') (is_last : number + 1 ≡ used_count b own) (reaches : first ≤ l') (no_vxr : is_linkable b records vxr_type at' ≡ true → ⊥) where
  -- it names no chain
  no_chain : (levels place i f l : ℕ) (ns : Nodes) → place ≡ own → i ≡ number → IsNode ns → HasNodes b records levels ns → SaysEntry b place i f l (link_to ns) → ⊥
  no_chain levels place i f l ns p q is has s =
      let here : SaysEntry b own number f l (link_to ns) = rw (p, q) at s in
      let e : link_to ns ≡ at' = sym here.offset_is ∙ says.offset_is in
      no_vxr (subst (λ (m : ℕ). is_linkable b records vxr_type m ≡ true) e (stands_at b records levels ns is has))

  -- its block reaches them
  its_last : (place i f l at : ℕ) → place ≡ own → i ≡ number → SaysEntry b place i f l at → first ≤ l
  its_last place i f l at p q s =
      let here : SaysEntry b own number f l at = rw (p, q) at s in
      let e : l ≡ l' = sym here.last_is ∙ says.last_is in
      omega (arith, e, reaches)

  -- so not all entries of its node end before them
  some_entry : (levels place i : ℕ) (es : Entries) → place ≡ own → i ≤ number → number < i + entry_count es → Names b records levels es → SayEntries b place i es → Each (Ends first) (entry_leaves es) → ⊥
  unfolding Names entry_leaves
  some_entry levels place i no_entry p le lt n s e = omega (arith, lt)
  some_entry levels place i (block f l at packed es) p le lt n s e = elim (cases_eq i number) [
    | inl q ↦ omega (arith, its_last place i f l at p q s.0, e.0)
    | inr ne ↦ some_entry levels place (suc i) es p (omega (arith, ne)) (omega (arith, lt)) n.2 s.1 e.1
  ]
  some_entry levels place i (lower f l ns es) p le lt n s e = elim (cases_eq i number) [
    | inl q ↦ no_chain levels place i f l ns p q n.0 n.1 s.0
    | inr ne ↦ some_entry levels place (suc i) es p (omega (arith, ne)) (omega (arith, lt)) n.2 s.1 (Each-split (Ends first) (leaves_of ns) (entry_leaves es) e).1
  ]

  -- nor do all of a chain that has its node
  mutual
    unfolding HasNodes Names leaves_of entry_leaves nodes_of lower_nodes

    not_in : (levels : ℕ) (ns : Nodes) → HasNodes b records levels ns → Each (Ends first) (leaves_of ns) → In own (nodes_of ns) → ⊥
    not_in levels no_node has e i = i
    not_in zero (node place room es more) has e i = has
    not_in (suc levels) (node place room es more) has e (inl p) =
        some_entry levels place 0 es (sym p) (omega arith) (omega (arith, is_last, subst (λ (m : ℕ). used_count b m ≡ entry_count es) (sym p) has.0.used_is)) has.1 has.0.say_entries (Each-split (Ends first) (entry_leaves es) (leaves_of more) e).0
    not_in (suc levels) (node place room es more) has e (inr k) =
        let parts = Each-split (Ends first) (entry_leaves es) (leaves_of more) e in
        elim (In-append own (lower_nodes es) (nodes_of more) k) [
          | inl j ↦ not_below levels es has.1 parts.0 j
          | inr j ↦ not_in (suc levels) more has.2 parts.1 j
        ]

    not_below : (levels : ℕ) (es : Entries) → Names b records levels es → Each (Ends first) (entry_leaves es) → In own (lower_nodes es) → ⊥
    not_below levels no_entry n e i = i
    not_below levels (block f l at packed es) n e i = not_below levels es n.2 e.1 i
    not_below levels (lower f l ns es) n e i =
        let parts = Each-split (Ends first) (leaves_of ns) (entry_leaves es) e in
        elim (In-append own (nodes_of ns) (lower_nodes es) i) [
          | inl j ↦ not_in levels ns n.1 parts.0 j
          | inr j ↦ not_below levels es n.2 parts.1 j
        ]

  -- of the entries of its node it alone reaches them
  its_node : (levels place i low upto : ℕ) (es : Entries) → place ≡ own → number + 1 ≡ i + entry_count es → Names b records levels es → SayEntries b place i es → Ascending low upto (entry_leaves es) → Each (Begins first) (entry_leaves es) → EntriesReach first (At own number) place i es
  unfolding Names entry_leaves EntriesReach
  its_node levels place i low upto no_entry p c n s a e = tt
  its_node levels place i low upto (block f l at packed es) p c n s a e = (
    (λ le. elim (cases_eq i number) [
      | inl q ↦ (p, q)
      | inr ne ↦ absurd (some_entry levels place (suc i) es p (omega (arith, ne, c)) (omega (arith, c)) n.2 s.1 (none_behind first (suc l) upto (entry_leaves es) (omega (arith, le)) a.3 e.1))
    ]),
    its_node levels place (suc i) (suc l) upto es p (omega (arith, c)) n.2 s.1 a.3 e.1,
  )
  its_node levels place i low upto (lower f l ns es) p c n s a e =
      let parts = Each-split (Begins first) (leaves_of ns) (entry_leaves es) e in (
        elim (cases_eq i number) [
          | inl q ↦ absurd (no_chain levels place i f l ns p q n.0 n.1 s.0)
          | inr ne ↦ elim (either_ends first low upto (leaves_of ns) (entry_leaves es) a parts.1) [
            | inl h ↦ none_reaches first (At own number) ns h
            | inr h ↦ absurd (some_entry levels place (suc i) es p (omega (arith, ne, c)) (omega (arith, c)) n.2 s.1 h)
          ]
        ],
        its_node levels place (suc i) low upto es p (omega (arith, c)) n.2 s.1 (back low upto (leaves_of ns) (entry_leaves es) a) parts.1,
      )

  mutual
    unfolding HasNodes Names leaves_of entry_leaves nodes_of lower_nodes OnlyReach EntriesReach

    -- and of an index that has its node
    pub only_reaches : (levels low upto : ℕ) (ns : Nodes) → HasNodes b records levels ns → Ascending low upto (leaves_of ns) → Each (Begins first) (leaves_of ns) → In own (nodes_of ns) → OnlyReach first (At own number) ns
    only_reaches levels low upto no_node has a e i = tt
    only_reaches zero low upto (node place room es more) has a e i = absurd has
    only_reaches (suc levels) low upto (node place room es more) has a e (inl p) =
        let parts = Each-split (Begins first) (entry_leaves es) (leaves_of more) e in
        let many : number + 1 ≡ entry_count es = is_last ∙ subst (λ (m : ℕ). used_count b m ≡ entry_count es) (sym p) has.0.used_is in
        let behind : Each (Ends first) (leaves_of more) = elim (either_ends first low upto (entry_leaves es) (leaves_of more) a parts.1) [
          | inl h ↦ absurd (some_entry levels place 0 es (sym p) (omega arith) (omega (arith, many)) has.1 has.0.say_entries h)
          | inr h ↦ h
        ] in
        (its_node levels place 0 low upto es (sym p) (omega (arith, many)) has.1 has.0.say_entries (front low upto (entry_leaves es) (leaves_of more) a) parts.0, none_reaches first (At own number) more behind)
    only_reaches (suc levels) low upto (node place room es more) has a e (inr k) =
        let parts = Each-split (Begins first) (entry_leaves es) (leaves_of more) e in
        let ends = either_ends first low upto (entry_leaves es) (leaves_of more) a parts.1 in
        elim (In-append own (lower_nodes es) (nodes_of more) k) [
          | inl j ↦ elim ends [
            | inl h ↦ absurd (not_below levels es has.1 h j)
            | inr h ↦ (only_below levels place 0 low upto es has.1 (front low upto (entry_leaves es) (leaves_of more) a) parts.0 j, none_reaches first (At own number) more h)
          ]
          | inr j ↦ elim ends [
            | inl h ↦ (no_entry_reaches first (At own number) place 0 es h, only_reaches (suc levels) low upto more has.2 (back low upto (entry_leaves es) (leaves_of more) a) parts.1 j)
            | inr h ↦ absurd (not_in (suc levels) more has.2 h j)
          ]
        ]

    only_below : (levels place i low upto : ℕ) (es : Entries) → Names b records levels es → Ascending low upto (entry_leaves es) → Each (Begins first) (entry_leaves es) → In own (lower_nodes es) → EntriesReach first (At own number) place i es
    only_below levels place i low upto no_entry n a e k = tt
    only_below levels place i low upto (block f l at packed es) n a e k = (
      (λ le. absurd (not_below levels es n.2 (none_behind first (suc l) upto (entry_leaves es) (omega (arith, le)) a.3 e.1) k)),
      only_below levels place (suc i) (suc l) upto es n.2 a.3 e.1 k,
    )
    only_below levels place i low upto (lower f l ns es) n a e k =
        let parts = Each-split (Begins first) (leaves_of ns) (entry_leaves es) e in
        let ends = either_ends first low upto (leaves_of ns) (entry_leaves es) a parts.1 in
        elim (In-append own (nodes_of ns) (lower_nodes es) k) [
          | inl j ↦ elim ends [
            | inl h ↦ absurd (not_in levels ns n.1 h j)
            | inr h ↦ (only_reaches levels low upto ns n.1 (front low upto (leaves_of ns) (entry_leaves es) a) parts.0 j, no_entry_reaches first (At own number) place (suc i) es h)
          ]
          | inr j ↦ elim ends [
            | inl h ↦ (none_reaches first (At own number) ns h, only_below levels place (suc i) low upto es n.2 (back low upto (leaves_of ns) (entry_leaves es) a) parts.1 j)
            | inr h ↦ absurd (not_below levels es n.2 h j)
          ]
        ]
