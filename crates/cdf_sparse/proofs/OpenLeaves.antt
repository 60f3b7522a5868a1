-- What is left of a leaf where records go and later ones keep their numbers: the part that stays in its block, and the part that is split off.
use Rattle.cdf_cuts.proofs.Common.{Leaf, List, Range, [], ap, arith, cases_lt, flat_map, inl, inr, le-ltb, lt-ltb, map, range, refl, subst, suc, sym, ℕ, ◌++◌, ◌+◌, ◌-◌, ◌<◌, ◌∙◌, ◌∷◌, ◌≡◌, ◌≤◌, ◌⊎◌}
use Rattle.std.specs.Prelude.{max, min}
use Rattle.cdf_edits.proofs.Common.{record_number_limit}
use Rattle.cdf_edits.proofs.Edits.LeafPieces.{IsOneOf, find_covering, in_order}
use Rattle.cdf_edits.proofs.Edits.LeafRecords.{Ascending}
use Rattle.cdf_edits.specs.Index.Cut.{IsPart}
use Rattle.cdf_edits.specs.Index.Grown.{kept_open, split_off}
use Rattle.cdf_sparse.specs.Opening.{IsDivided}

-- two leaves that have one record are the same
pub same_leaf : (k : ℕ) (leaves : List Leaf) → Ascending 0 (suc record_number_limit) leaves → (l l' : Leaf) → IsOneOf leaves l → IsOneOf leaves l' → l.first ≤ k → k ≤ l.last → l'.first ≤ k → k ≤ l'.last → l ≡ l'
same_leaf k leaves ascend l l' i i' f t f' t' =
    let p = find_covering k 0 (suc record_number_limit) leaves ascend l i f t in
    let q = find_covering k 0 (suc record_number_limit) leaves ascend l' i' f' t' in
    let r = sym p ∙ q in
    cc

module _ (first last : ℕ) (order : first ≤ last) where
  -- a leaf keeps its records before those that go
  pub record Front (l m : Leaf) : Type 0 where
    pub reaches : l.first < first
    pub first_is : m.first ≡ l.first
    pub last_is : m.last ≡ min l.last (first - 1)

  -- or, where it has none, those behind them
  pub record Back (l m : Leaf) : Type 0 where
    pub from : first ≤ l.first
    pub ends : last < l.last
    pub first_is : m.first ≡ max l.first (last + 1)
    pub last_is : m.last ≡ l.last

  -- ---- a range

  pub kept_front : (f l : ℕ) → f < first → kept_open first last (range f l) ≡ range f (min l (first - 1)) ∷ []
  kept_front f l lt = rw (lt-ltb f first lt) refl

  pub kept_back : (f l : ℕ) → first ≤ f → last < l → kept_open first last (range f l) ≡ range (max f (last + 1)) l ∷ []
  kept_back f l low lt = rw (le-ltb f first low, lt-ltb last l lt) refl

  pub kept_none : (f l : ℕ) → first ≤ f → l ≤ last → kept_open first last (range f l) ≡ []
  kept_none f l low le = rw (le-ltb f first low, le-ltb last l le) refl

  pub split_some : (f l : ℕ) → f < first → last < l → split_off first last (range f l) ≡ range (max f (last + 1)) l ∷ []
  split_some f l lt gt = rw (lt-ltb f first lt, lt-ltb last l gt) refl

  pub split_none : (f l : ℕ) → (first ≤ f) ⊎ (l ≤ last) → split_off first last (range f l) ≡ []
  split_none f l (inl low) = elim (cases_lt last l) [ inl lt ↦ rw (le-ltb f first low, lt-ltb last l lt) refl | inr le ↦ rw (le-ltb f first low, le-ltb last l le) refl ]
  split_none f l (inr le) = elim (cases_lt f first) [ inl lt ↦ rw (lt-ltb f first lt, le-ltb last l le) refl | inr low ↦ rw (le-ltb f first low, le-ltb last l le) refl ]

  -- ---- a leaf

  pub kept_some : (l m : Leaf) (more : List Range) → kept_open first last (range l.first l.last) ≡ range m.first m.last ∷ more → Front l m ⊎ Back l m
  kept_some l m more e = elim (cases_lt l.first first) [
    | inl lt ↦
        let q : range m.first m.last ∷ more ≡ range l.first (min l.last (first - 1)) ∷ [] = sym e ∙ kept_front l.first l.last lt in
        let s : range m.first m.last ≡ range l.first (min l.last (first - 1)) = cc in
        inl (record { reaches = lt; first_is = ap (λ (r : Range). r.first) s; last_is = ap (λ (r : Range). r.last) s })
    | inr low ↦ elim (cases_lt last l.last) [
      | inl gt ↦
          let q : range m.first m.last ∷ more ≡ range (max l.first (last + 1)) l.last ∷ [] = sym e ∙ kept_back l.first l.last low gt in
          let s : range m.first m.last ≡ range (max l.first (last + 1)) l.last = cc in
          inr (record { from = low; ends = gt; first_is = ap (λ (r : Range). r.first) s; last_is = ap (λ (r : Range). r.last) s })
      | inr le ↦ (let q : range m.first m.last ∷ more ≡ [] = sym e ∙ kept_none l.first l.last low le in absurd cc)
    ]
  ]

  -- something is left of a leaf that has records before those that go, or behind them
  pub not_none : (l : Leaf) → (l.first < first) ⊎ (last < l.last) → kept_open first last (range l.first l.last) ≡ [] → ⊥
  not_none l side e = elim (cases_lt l.first first) [
    | inl lt ↦ (let q : range l.first (min l.last (first - 1)) ∷ [] ≡ [] = sym (kept_front l.first l.last lt) ∙ e in absurd cc)
    | inr low ↦ elim side [
      | inl lt ↦ absurd (omega arith)
      | inr gt ↦ (let q : range (max l.first (last + 1)) l.last ∷ [] ≡ [] = sym (kept_back l.first l.last low gt) ∙ e in absurd cc)
    ]
  ]

  pub split_is : (l m : Leaf) → IsPart (split_off first last) l m → IsDivided first last l × ((m.first ≡ last + 1) × (m.last ≡ l.last))
  split_is l m part = elim (cases_lt l.first first) [
    | inl lt ↦ elim (cases_lt last l.last) [
      | inl gt ↦
          let q : range m.first m.last ∷ [] ≡ range (max l.first (last + 1)) l.last ∷ [] = sym part ∙ split_some l.first l.last lt gt in
          let s : range m.first m.last ≡ range (max l.first (last + 1)) l.last = cc in
          (record { begins = lt; ends = gt }, (omega (arith, ap (λ (r : Range). r.first) s), ap (λ (r : Range). r.last) s))
      | inr le ↦ (let q : range m.first m.last ∷ [] ≡ [] = sym part ∙ split_none l.first l.last (inr le) in absurd cc)
    ]
    | inr low ↦ (let q : range m.first m.last ∷ [] ≡ [] = sym part ∙ split_none l.first l.last (inl low) in absurd cc)
  ]

  whole_one : (l : Leaf) → (IsDivided first last l → ⊥) → split_off first last (range l.first l.last) ≡ []
  whole_one l none = elim (cases_lt l.first first) [
    | inl lt ↦ elim (cases_lt last l.last) [ inl gt ↦ absurd (none (record { begins = lt; ends = gt })) | inr le ↦ split_none l.first l.last (inr le) ]
    | inr low ↦ split_none l.first l.last (inl low)
  ]

  -- ---- all leaves

  abbrev splits : List Leaf → List Range
  splits leaves = flat_map (split_off first last) (map (λ (l : Leaf). range l.first l.last) leaves)

  pub none_split : (leaves : List Leaf) → ((l : Leaf) → IsOneOf leaves l → IsDivided first last l → ⊥) → splits leaves ≡ []
  none_split [] none = refl
  none_split (x ∷ more) none = λ i. whole_one x (none x (inl refl)) i ++ none_split more (λ l j. none l (inr j)) i

  -- at most one leaf is divided
  pub one_split : (low upto : ℕ) (leaves : List Leaf) → Ascending low upto leaves → (l : Leaf) → IsOneOf leaves l → IsDivided first last l → splits leaves ≡ range (last + 1) l.last ∷ []
  one_split low upto [] a l i d = absurd i
  one_split low upto (x ∷ more) a l (inl q) d =
      let b = d.begins in
      let e = d.ends in
      let here : split_off first last (range l.first l.last) ≡ range (last + 1) l.last ∷ [] = split_some l.first l.last b e ∙ ap (λ (n : ℕ). range n l.last ∷ []) (omega arith) in
      let is : split_off first last (range x.first x.last) ≡ range (last + 1) l.last ∷ [] = subst (λ (y : Leaf). split_off first last (range y.first y.last) ≡ range (last + 1) l.last ∷ []) (sym q) here in
      let ends : last < x.last = subst (λ (y : Leaf). last < y.last) (sym q) e in
      let none : (y : Leaf) → IsOneOf more y → IsDivided first last y → ⊥ = λ y j g. absurd (omega (arith, (in_order (suc x.last) upto more a.3 y j).from, g.begins, ends)) in
      λ i. is i ++ none_split more none i
  one_split low upto (x ∷ more) a l (inr j) d =
      let from = (in_order (suc x.last) upto more a.3 l j).from in
      let b = d.begins in
      λ i. split_none x.first x.last (inr (omega arith)) i ++ one_split (suc x.last) upto more a.3 l j d i
