-- What a leaf keeps where some records go and later ones close up: all, none, or those before them, those behind, or both; and which leaves of an index keep some.
use Rattle.cdf_edits.proofs.Common.{Bool, Leaf, List, None, Option, Range, Some, [], ap, arith, cases_lt, false, filter, find, inl, inr, le-ltb, lt-ltb, nat_lt, nat_tests, range, record_number_limit, refl, suc, sym, true, true≢false, ℕ, ◌&&◌, ◌+◌, ◌-◌, ◌<◌, ◌∙◌, ◌∷◌, ◌≡◌, ◌≤◌, ◌⊎◌}
use Rattle.cdf_edits.proofs.Edits.LeafPieces.{IsOneOf, in_order}
use Rattle.cdf_edits.proofs.Edits.LeafRecords.{Ascending, count_is}
use Rattle.cdf_packed_deletes.specs.Closing.{keeping}
use Rattle.cdf_packed_deletes.specs.Steps.{count_of, keeps_some, parts_kept}
use Rattle.std.specs.Prelude.{max, min}

-- ---- lists

pub filter_here : (p : Leaf → Bool) (x : Leaf) (xs : List Leaf) → p x ≡ true → filter p (x ∷ xs) ≡ x ∷ filter p xs
filter_here p x xs e = rw e refl

pub filter_later : (p : Leaf → Bool) (x : Leaf) (xs : List Leaf) → p x ≡ false → filter p (x ∷ xs) ≡ filter p xs
filter_later p x xs e = rw e refl

find_here : (p : Leaf → Bool) (x : Leaf) (xs : List Leaf) → p x ≡ true → find p (x ∷ xs) ≡ Some x
find_here p x xs e = rw e refl

find_later : (p : Leaf → Bool) (x : Leaf) (xs : List Leaf) → p x ≡ false → find p (x ∷ xs) ≡ find p xs
find_later p x xs e = rw e refl

-- ---- one leaf

-- a leaf with numbers that have no sign
pub record IsRanged (l : Leaf) : Type 0 where
  pub ordered : l.first ≤ l.last
  pub small : l.last ≤ record_number_limit

module _ (first last : ℕ) where
  abbrev pub IsBoth : Leaf → Type 0
  IsBoth l = (l.first < first) × (last < l.last)

  -- it has records before those that go, and some of these
  abbrev pub IsBegun : Leaf → Type 0
  IsBegun l = (l.first < first) × (first ≤ l.last)

  abbrev pub IsFront : Leaf → Type 0
  IsFront l = (l.first < first) × (first ≤ l.last) × (l.last ≤ last)

  abbrev pub IsBack : Leaf → Type 0
  IsBack l = (first ≤ l.first) × (l.first ≤ last) × (last < l.last)

  abbrev pub IsApart : Leaf → Type 0
  IsApart l = (l.last < first) ⊎ (last < l.first)

  abbrev pub IsInside : Leaf → Type 0
  IsInside l = (first ≤ l.first) × (l.last ≤ last)

  -- the leaf that has records on both sides
  abbrev pub has_both : Leaf → Bool
  has_both l = nat_lt l.first first && nat_lt last l.last

  pub kinds : (l : Leaf) → IsBoth l ⊎ (IsFront l ⊎ (IsBack l ⊎ (IsApart l ⊎ IsInside l)))
  kinds l = elim (cases_lt l.first first) [
    | inl lt ↦ elim (cases_lt last l.last) [
      | inl gt ↦ inl (lt, gt)
      | inr le ↦ elim (cases_lt l.last first) [ inl before ↦ inr (inr (inr (inl (inl before)))) | inr ge ↦ inr (inl (lt, ge, le)) ]
    ]
    | inr ge ↦ elim (cases_lt last l.last) [
      | inl gt ↦ elim (cases_lt last l.first) [ inl behind ↦ inr (inr (inr (inl (inr behind)))) | inr le ↦ inr (inr (inl (ge, le, gt))) ]
      | inr le ↦ inr (inr (inr (inr (ge, le))))
    ]
  ]

module _ (first last : ℕ) (order : first ≤ last) where
  -- ---- the parts that it keeps

  pub parts_both : (l : Leaf) → IsBoth first last l → parts_kept true first last l ≡ range l.first (first - 1) ∷ range (last + 1) l.last ∷ []
  parts_both l k =
      let p : min l.last (first - 1) ≡ first - 1 = omega (arith, k.1, order) in
      let q : max l.first (last + 1) ≡ last + 1 = omega (arith, k.0, order) in
      rw (lt-ltb l.first first k.0, lt-ltb last l.last k.1) (λ i. range l.first (p i) ∷ range (q i) l.last ∷ [])

  pub parts_front : (l : Leaf) → IsFront first last l → parts_kept true first last l ≡ range l.first (first - 1) ∷ []
  parts_front l k =
      let p : min l.last (first - 1) ≡ first - 1 = omega (arith, k.1) in
      rw (lt-ltb l.first first k.0, le-ltb last l.last k.2) (λ i. range l.first (p i) ∷ [])

  pub parts_back : (l : Leaf) → IsBack first last l → parts_kept true first last l ≡ range (last + 1) l.last ∷ []
  parts_back l k =
      let q : max l.first (last + 1) ≡ last + 1 = omega (arith, k.1) in
      rw (le-ltb l.first first k.0, lt-ltb last l.last k.2) (λ i. range (q i) l.last ∷ [])

  parts_before : (l : Leaf) → l.first ≤ l.last → l.last < first → parts_kept true first last l ≡ range l.first l.last ∷ []
  parts_before l o lt =
      let p : min l.last (first - 1) ≡ l.last = omega (arith, lt) in
      rw (lt-ltb l.first first (omega (arith, o, lt)), le-ltb last l.last (omega (arith, order, lt))) (λ i. range l.first (p i) ∷ [])

  parts_behind : (l : Leaf) → l.first ≤ l.last → last < l.first → parts_kept true first last l ≡ range l.first l.last ∷ []
  parts_behind l o lt =
      let q : max l.first (last + 1) ≡ l.first = omega (arith, lt) in
      rw (le-ltb l.first first (omega (arith, order, lt)), lt-ltb last l.last (omega (arith, o, lt))) (λ i. range (q i) l.last ∷ [])

  parts_inside : (l : Leaf) → IsInside first last l → parts_kept true first last l ≡ []
  parts_inside l k = rw (le-ltb l.first first k.0, le-ltb last l.last k.1) refl

  -- ---- whether it keeps some

  keeps_by : (l : Leaf) (rs : List Range) → IsRanged l → parts_kept true first last l ≡ rs → keeps_some true first last l ≡ (nat_lt 0 (count_of rs) && nat_lt (count_of rs) (l.last + 1 - l.first))
  keeps_by l rs r e = λ i. nat_lt 0 (count_of (e i)) && nat_lt (count_of (e i)) (count_is l r.small r.ordered i)

  some_of : (n m : ℕ) → 0 < n → n < m → (nat_lt 0 n && nat_lt n m) ≡ true
  some_of n m p q = rw (lt-ltb 0 n p, lt-ltb n m q) refl

  all_of : (n m : ℕ) → m ≤ n → (nat_lt 0 n && nat_lt n m) ≡ false
  all_of n m le = grind (arith, nat_tests)

  pub keeps_both : (l : Leaf) → IsRanged l → IsBoth first last l → keeps_some true first last l ≡ true
  keeps_both l r k = keeps_by l (range l.first (first - 1) ∷ range (last + 1) l.last ∷ []) r (parts_both l k) ∙ some_of (count_of (range l.first (first - 1) ∷ range (last + 1) l.last ∷ [])) (l.last + 1 - l.first) (omega (arith, k.0, order)) (omega (arith, k.0, k.1, order))

  pub keeps_front : (l : Leaf) → IsRanged l → IsFront first last l → keeps_some true first last l ≡ true
  keeps_front l r k = keeps_by l (range l.first (first - 1) ∷ []) r (parts_front l k) ∙ some_of (count_of (range l.first (first - 1) ∷ [])) (l.last + 1 - l.first) (omega (arith, k.0)) (omega (arith, k.0, k.1))

  pub keeps_back : (l : Leaf) → IsRanged l → IsBack first last l → keeps_some true first last l ≡ true
  keeps_back l r k = keeps_by l (range (last + 1) l.last ∷ []) r (parts_back l k) ∙ some_of (count_of (range (last + 1) l.last ∷ [])) (l.last + 1 - l.first) (omega (arith, k.2)) (omega (arith, k.1, k.2))

  pub keeps_apart : (l : Leaf) → IsRanged l → IsApart first last l → keeps_some true first last l ≡ false
  keeps_apart l r (inl lt) = keeps_by l (range l.first l.last ∷ []) r (parts_before l r.ordered lt) ∙ all_of (count_of (range l.first l.last ∷ [])) (l.last + 1 - l.first) (omega arith)
  keeps_apart l r (inr lt) = keeps_by l (range l.first l.last ∷ []) r (parts_behind l r.ordered lt) ∙ all_of (count_of (range l.first l.last ∷ [])) (l.last + 1 - l.first) (omega arith)

  pub keeps_inside : (l : Leaf) → IsRanged l → IsInside first last l → keeps_some true first last l ≡ false
  keeps_inside l r k = keeps_by l [] r (parts_inside l k)

  -- a leaf that keeps some has some of those that go
  pub meets : (l : Leaf) → IsRanged l → keeps_some true first last l ≡ true → IsApart first last l → ⊥
  meets l r e a = true≢false (sym e ∙ keeps_apart l r a)

  pub kept_kinds : (l : Leaf) → IsRanged l → keeps_some true first last l ≡ true → IsBoth first last l ⊎ (IsFront first last l ⊎ IsBack first last l)
  kept_kinds l r e = elim (kinds first last l) [
    | inl k ↦ inl k
    | inr x ↦ elim x [
      | inl k ↦ inr (inl k)
      | inr y ↦ elim y [
        | inl k ↦ inr (inr k)
        | inr z ↦ elim z [ inl k ↦ absurd (meets l r e k) | inr k ↦ absurd (true≢false (sym e ∙ keeps_inside l r k)) ]
      ]
    ]
  ]

  pub other_kinds : (l : Leaf) → IsRanged l → keeps_some true first last l ≡ false → IsApart first last l ⊎ IsInside first last l
  other_kinds l r e = elim (kinds first last l) [
    | inl k ↦ absurd (true≢false (sym (keeps_both l r k) ∙ e))
    | inr x ↦ elim x [
      | inl k ↦ absurd (true≢false (sym (keeps_front l r k) ∙ e))
      | inr y ↦ elim y [ inl k ↦ absurd (true≢false (sym (keeps_back l r k) ∙ e)) | inr z ↦ z ]
    ]
  ]

-- ---- the leaves of an index

-- No leaf keeps some; or one that has records on both sides does; or one that has them on one side; or one that has those before and another one that has those behind.
module _ (first last : ℕ) (order : first ≤ last) where
  abbrev both_of : List Leaf → Option Leaf
  both_of leaves = find (λ l. nat_lt l.first first && nat_lt last l.last) leaves

  pub record NoSide (leaves : List Leaf) : Type 0 where
    pub keeping_is : keeping first last leaves ≡ []
    pub none : both_of leaves ≡ None

  pub record OneBoth (leaves : List Leaf) : Type 0 where
    pub one : Leaf
    pub is_one : IsOneOf leaves one
    pub keeping_is : keeping first last leaves ≡ one ∷ []
    pub found : both_of leaves ≡ Some one
    pub both : IsBoth first last one

  pub record OneSide (leaves : List Leaf) : Type 0 where
    pub one : Leaf
    pub is_one : IsOneOf leaves one
    pub keeping_is : keeping first last leaves ≡ one ∷ []
    pub none : both_of leaves ≡ None
    pub side : IsFront first last one ⊎ IsBack first last one

  pub record TwoSides (leaves : List Leaf) : Type 0 where
    pub front : Leaf
    pub back : Leaf
    pub is_front : IsOneOf leaves front
    pub is_back : IsOneOf leaves back
    pub keeping_is : keeping first last leaves ≡ front ∷ back ∷ []
    pub none : both_of leaves ≡ None
    pub before : IsFront first last front
    pub behind : IsBack first last back

  abbrev pub Sides : List Leaf → Type 0
  Sides leaves = NoSide leaves ⊎ (OneBoth leaves ⊎ (OneSide leaves ⊎ TwoSides leaves))

  abbrev keeps : Leaf → Bool
  keeps l = keeps_some true first last l

  not_both : (l : Leaf) → (first ≤ l.first) ⊎ (l.last ≤ last) → has_both first last l ≡ false
  not_both l (inl ge) = rw (le-ltb l.first first ge) refl
  not_both l (inr le) = grind (arith, nat_tests, le)

  -- leaves behind all records that go
  none_behind : (low : ℕ) (xs : List Leaf) → last < low → Ascending low (suc record_number_limit) xs → NoSide xs
  none_behind low [] lt a = record { keeping_is = refl; none = refl }
  none_behind low (x ∷ xs) lt a =
      let more = none_behind (suc x.last) xs (omega (arith, lt, a.0, a.1)) a.3 in
      let r : IsRanged x = record { ordered = a.1; small = omega (arith, a.2) } in
      record {
        keeping_is = filter_later keeps x xs (keeps_apart first last order x r (inr (omega (arith, lt, a.0)))) ∙ more.keeping_is;
        none = find_later (has_both first last) x xs (not_both x (inl (omega (arith, lt, a.0, order)))) ∙ more.none;
      }

  -- a leaf that keeps none in front of others
  with_other : (x : Leaf) (xs : List Leaf) → keeps x ≡ false → has_both first last x ≡ false → Sides xs → Sides (x ∷ xs)
  with_other x xs k h (inl n) = inl (record { keeping_is = filter_later keeps x xs k ∙ n.keeping_is; none = find_later (has_both first last) x xs h ∙ n.none })
  with_other x xs k h (inr (inl n)) = inr (inl (record { one = n.one; is_one = inr n.is_one; keeping_is = filter_later keeps x xs k ∙ n.keeping_is; found = find_later (has_both first last) x xs h ∙ n.found; both = n.both }))
  with_other x xs k h (inr (inr (inl n))) = inr (inr (inl (record { one = n.one; is_one = inr n.is_one; keeping_is = filter_later keeps x xs k ∙ n.keeping_is; none = find_later (has_both first last) x xs h ∙ n.none; side = n.side })))
  with_other x xs k h (inr (inr (inr n))) = inr (inr (inr (record { front = n.front; back = n.back; is_front = inr n.is_front; is_back = inr n.is_back; keeping_is = filter_later keeps x xs k ∙ n.keeping_is; none = find_later (has_both first last) x xs h ∙ n.none; before = n.before; behind = n.behind })))

  -- and one that keeps its records before those that go
  with_front : (x : Leaf) (xs : List Leaf) → Ascending (suc x.last) (suc record_number_limit) xs → keeps x ≡ true → IsFront first last x → Sides xs → Sides (x ∷ xs)
  with_front x xs a k f (inl n) = inr (inr (inl (record { one = x; is_one = inl refl; keeping_is = filter_here keeps x xs k ∙ ap (λ (ys : List Leaf). x ∷ ys) n.keeping_is; none = find_later (has_both first last) x xs (not_both x (inr f.2)) ∙ n.none; side = inl f })))
  with_front x xs a k f (inr (inl n)) = let o = (in_order (suc x.last) (suc record_number_limit) xs a n.one n.is_one).from in absurd (omega (arith, o, n.both.0, f.1))
  with_front x xs a k f (inr (inr (inl n))) =
      let o = (in_order (suc x.last) (suc record_number_limit) xs a n.one n.is_one).from in
      elim n.side [
        | inl before ↦ absurd (omega (arith, o, before.0, f.1))
        | inr behind ↦ inr (inr (inr (record { front = x; back = n.one; is_front = inl refl; is_back = inr n.is_one; keeping_is = filter_here keeps x xs k ∙ ap (λ (ys : List Leaf). x ∷ ys) n.keeping_is; none = find_later (has_both first last) x xs (not_both x (inr f.2)) ∙ n.none; before = f; behind = behind })))
      ]
  with_front x xs a k f (inr (inr (inr n))) = let o = (in_order (suc x.last) (suc record_number_limit) xs a n.front n.is_front).from in absurd (omega (arith, o, n.before.0, f.1))

  pub sides : (low : ℕ) (leaves : List Leaf) → Ascending low (suc record_number_limit) leaves → Sides leaves
  sides low [] a = inl (record { keeping_is = refl; none = refl })
  sides low (x ∷ xs) a =
      let r : IsRanged x = record { ordered = a.1; small = omega (arith, a.2) } in
      let more = sides (suc x.last) xs a.3 in
      elim (kinds first last x) [
        | inl k ↦
            let n = none_behind (suc x.last) xs (omega (arith, k.1)) a.3 in
            inr (inl (record {
              one = x;
              is_one = inl refl;
              keeping_is = filter_here keeps x xs (keeps_both first last order x r k) ∙ ap (λ (ys : List Leaf). x ∷ ys) n.keeping_is;
              found = find_here (has_both first last) x xs (rw (lt-ltb x.first first k.0, lt-ltb last x.last k.1) refl);
              both = k;
            }))
        | inr y ↦ elim y [
          | inl k ↦ with_front x xs a.3 (keeps_front first last order x r k) k more
          | inr z ↦ elim z [
            | inl k ↦
                let n = none_behind (suc x.last) xs (omega (arith, k.2)) a.3 in
                inr (inr (inl (record {
                  one = x;
                  is_one = inl refl;
                  keeping_is = filter_here keeps x xs (keeps_back first last order x r k) ∙ ap (λ (ys : List Leaf). x ∷ ys) n.keeping_is;
                  none = find_later (has_both first last) x xs (not_both x (inl k.0)) ∙ n.none;
                  side = inr k;
                })))
            | inr w ↦ elim w [
              | inl k ↦ with_other x xs (keeps_apart first last order x r k) (not_both x (elim k [ inl lt ↦ inr (omega (arith, lt, order)) | inr lt ↦ inl (omega (arith, lt, order)) ])) more
              | inr k ↦ with_other x xs (keeps_inside first last order x r k) (not_both x (inl k.0)) more
            ]
          ]
        ]
      ]
