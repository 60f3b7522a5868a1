-- What a leaf keeps where some records go and later ones keep their numbers: all, none, or those before them, or else those behind; and which leaf has records on both sides.
use Rattle.cdf_edits.proofs.Common.{Bool, Leaf, List, None, Range, Some, [], ap, arith, either, false, inl, inr, le-ltb, lt-ltb, nat_lt, nat_tests, range, refl, suc, sym, true, true≢false, ℕ, ◌&&◌, ◌+◌, ◌-◌, ◌<◌, ◌∙◌, ◌∷◌, ◌≡◌, ◌≤◌, ◌⊎◌}
use Rattle.cdf_edits.proofs.Edits.LeafPieces.{IsOneOf}
use Rattle.cdf_edits.proofs.Edits.LeafRecords.{count_is}
use Rattle.cdf_packed_deletes.proofs.LeafKinds.{IsApart, IsBack, IsBegun, IsBoth, IsInside, IsRanged, kinds}
use Rattle.cdf_packed_deletes.specs.Steps.{count_of, keeps_some, parts_kept, with_both}
use Rattle.std.specs.Prelude.{max, min}

module _ (first last : ℕ) (order : first ≤ suc last) where
  pub open_kinds : (l : Leaf) → IsBegun first last l ⊎ (IsBack first last l ⊎ (IsApart first last l ⊎ IsInside first last l))
  open_kinds l = elim (kinds first last l) [
    | inl k ↦ inl (k.0, omega (arith, k.1, order))
    | inr y ↦ elim y [ inl k ↦ inl (k.0, k.1) | inr z ↦ inr z ]
  ]

  -- ---- the parts that it keeps

  front_end : (l : Leaf) → first ≤ l.last → min l.last (first - 1) ≡ first - 1
  front_end l k = omega (arith, k)

  pub open_front : (l : Leaf) → IsBegun first last l → parts_kept false first last l ≡ range l.first (first - 1) ∷ []
  open_front l k = rw (lt-ltb l.first first k.0) (ap (λ (n : ℕ). range l.first n ∷ []) (front_end l k.1))

  pub open_back : (l : Leaf) → IsBack first last l → parts_kept false first last l ≡ range (last + 1) l.last ∷ []
  open_back l k =
      let q : max l.first (last + 1) ≡ last + 1 = omega (arith, k.1) in
      rw (le-ltb l.first first k.0, lt-ltb last l.last k.2) (ap (λ (n : ℕ). range n l.last ∷ []) q)

  pub open_before : (l : Leaf) → l.first ≤ l.last → l.last < first → parts_kept false first last l ≡ range l.first l.last ∷ []
  open_before l o lt =
      let p : min l.last (first - 1) ≡ l.last = omega (arith, lt) in
      rw (lt-ltb l.first first (omega (arith, o, lt))) (ap (λ (n : ℕ). range l.first n ∷ []) p)

  pub open_behind : (l : Leaf) → l.first ≤ l.last → last < l.first → parts_kept false first last l ≡ range l.first l.last ∷ []
  open_behind l o lt =
      let q : max l.first (last + 1) ≡ l.first = omega (arith, lt) in
      rw (le-ltb l.first first (omega (arith, order, lt)), lt-ltb last l.last (omega (arith, o, lt))) (ap (λ (n : ℕ). range n l.last ∷ []) q)

  pub open_apart : (l : Leaf) → l.first ≤ l.last → IsApart first last l → parts_kept false first last l ≡ range l.first l.last ∷ []
  open_apart l o (inl lt) = open_before l o lt
  open_apart l o (inr lt) = open_behind l o lt

  pub open_inside : (l : Leaf) → IsInside first last l → parts_kept false first last l ≡ []
  open_inside l k = rw (le-ltb l.first first k.0, le-ltb last l.last k.1) refl

  -- ---- whether it keeps some

  keeps_by : (l : Leaf) (rs : List Range) → IsRanged l → parts_kept false first last l ≡ rs → keeps_some false first last l ≡ (nat_lt 0 (count_of rs) && nat_lt (count_of rs) (l.last + 1 - l.first))
  keeps_by l rs r e = λ i. nat_lt 0 (count_of (e i)) && nat_lt (count_of (e i)) (count_is l r.small r.ordered i)

  all_of : (n m : ℕ) → m ≤ n → (nat_lt 0 n && nat_lt n m) ≡ false
  all_of n m le = grind (arith, nat_tests)

  pub keeps_apart : (l : Leaf) → IsRanged l → IsApart first last l → keeps_some false first last l ≡ false
  keeps_apart l r a = keeps_by l (range l.first l.last ∷ []) r (open_apart l r.ordered a) ∙ all_of (count_of (range l.first l.last ∷ [])) (l.last + 1 - l.first) (omega arith)

  pub keeps_inside : (l : Leaf) → IsRanged l → IsInside first last l → keeps_some false first last l ≡ false
  keeps_inside l r k = keeps_by l [] r (open_inside l k)

  some_of : (n m : ℕ) → 0 < n → n < m → (nat_lt 0 n && nat_lt n m) ≡ true
  some_of n m p q = rw (lt-ltb 0 n p, lt-ltb n m q) refl

  pub keeps_front : (l : Leaf) → IsRanged l → IsBegun first last l → keeps_some false first last l ≡ true
  keeps_front l r k = keeps_by l (range l.first (first - 1) ∷ []) r (open_front l k) ∙ some_of (count_of (range l.first (first - 1) ∷ [])) (l.last + 1 - l.first) (omega (arith, k.0)) (omega (arith, k.0, k.1))

  pub keeps_back : (l : Leaf) → IsRanged l → IsBack first last l → keeps_some false first last l ≡ true
  keeps_back l r k = keeps_by l (range (last + 1) l.last ∷ []) r (open_back l k) ∙ some_of (count_of (range (last + 1) l.last ∷ [])) (l.last + 1 - l.first) (omega (arith, k.2)) (omega (arith, k.1, k.2))

  pub open_meets : (l : Leaf) → IsRanged l → keeps_some false first last l ≡ true → IsApart first last l → ⊥
  open_meets l r e a = true≢false (sym e ∙ keeps_apart l r a)

  pub open_kept : (l : Leaf) → IsRanged l → keeps_some false first last l ≡ true → IsBegun first last l ⊎ IsBack first last l
  open_kept l r e = elim (open_kinds l) [
    | inl k ↦ inl k
    | inr y ↦ elim y [
      | inl k ↦ inr k
      | inr z ↦ elim z [ inl k ↦ absurd (open_meets l r e k) | inr k ↦ absurd (true≢false (sym e ∙ keeps_inside l r k)) ]
    ]
  ]

  pub open_other : (l : Leaf) → IsRanged l → keeps_some false first last l ≡ false → IsApart first last l ⊎ IsInside first last l
  open_other l r e = elim (open_kinds l) [
    | inl k ↦ absurd (true≢false (sym (keeps_front l r k) ∙ e))
    | inr y ↦ elim y [ inl k ↦ absurd (true≢false (sym (keeps_back l r k) ∙ e)) | inr z ↦ z ]
  ]

  -- ---- the leaf with records on both sides

  abbrev has_both : Leaf → Bool
  has_both l = nat_lt l.first first && nat_lt last l.last

  both_is : (l : Leaf) → has_both l ≡ true → IsBoth first last l
  both_is l e = grind (arith, nat_tests, e)

  is_both : (l : Leaf) → IsBoth first last l → has_both l ≡ true
  is_both l k = rw (lt-ltb l.first first k.0, lt-ltb last l.last k.1) refl

  pub both_found : (leaves : List Leaf) (l : Leaf) → with_both first last leaves ≡ Some l → IsOneOf leaves l × IsBoth first last l
  both_found [] l e = absurd cc
  both_found (x ∷ xs) l e = elim (either (has_both x)) [
    | inl t ↦ (let q : Some x ≡ Some l = rw t at e in let s : x ≡ l = cc in (inl s, both_is l (ap has_both (sym s) ∙ t)))
    | inr f ↦ (let q : with_both first last xs ≡ Some l = rw f at e in let r = both_found xs l q in (inr r.0, r.1))
  ]

  pub both_none : (leaves : List Leaf) → with_both first last leaves ≡ None → (l : Leaf) → IsOneOf leaves l → IsBoth first last l → ⊥
  both_none [] e l i k = absurd i
  both_none (x ∷ xs) e l i k = elim (either (has_both x)) [
    | inl t ↦ (let q : Some x ≡ None = rw t at e in absurd cc)
    | inr f ↦
        let q : with_both first last xs ≡ None = rw f at e in
        elim i [
          | inl s ↦ true≢false (sym (is_both l k) ∙ sym (ap has_both s) ∙ f)
          | inr j ↦ both_none xs q l j k
        ]
  ]
