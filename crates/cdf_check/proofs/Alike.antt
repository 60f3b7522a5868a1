-- No two members of a list are alike, or two of them are.
use Rattle.cdf_check.proofs.Common.{Bool, Distinct, Distinct-middle, Hold, In, In-append, IsBroken, List, [], and_from, ap, append-nil, append_assoc, ap₂, arith, bytes_eq, differ_rows, either, eqb, false, inl, inr, list_all, list_any, nat_tests, not-false, not-true, refl, subst, sym, true, true≢false, ℕ, ◌&&◌, ◌++◌, ◌∙◌, ◌∷◌, ◌≡◌, ◌≢◌}

one_of_any : (p : ℕ → Bool) (xs : List ℕ) → list_any p xs ≡ true → (o : ℕ) × In o xs × (p o ≡ true)
one_of_any p [] h = absurd cc
one_of_any p (x ∷ xs) h = elim (either (p x)) [
  | inl e ↦ (x, inl refl, e)
  | inr e ↦ let r = one_of_any p xs (rw e at h) in (r.0, inr r.1, r.2)
]

none_of_any : (p : ℕ → Bool) (xs : List ℕ) → list_any p xs ≡ false → (o : ℕ) → In o xs → p o ≡ false
none_of_any p [] h o i = absurd i
none_of_any p (x ∷ xs) h o i = elim (either (p x)) [
  | inl e ↦ let wrong : true ≡ false = rw e at h in absurd (true≢false wrong)
  | inr e ↦ let rest : list_any p xs ≡ false = rw e at h in elim i [ inl q ↦ ap p q ∙ e | inr j ↦ none_of_any p xs rest o j ]
]

pub all_of_each : (p : ℕ → Bool) (xs : List ℕ) → ((x : ℕ) → In x xs → p x ≡ true) → list_all p xs ≡ true
all_of_each p [] each = refl
all_of_each p (x ∷ xs) each = and_from (p x) (list_all p xs) (each x (inl refl)) (all_of_each p xs (λ y i. each y (inr i)))

pub not_all : (p : ℕ → Bool) (xs : List ℕ) (o : ℕ) → In o xs → p o ≡ false → list_all p xs ≡ false
not_all p [] o i e = absurd i
not_all p (x ∷ xs) o (inl q) e = let here : p x ≡ false = ap p (sym q) ∙ e in rw here refl
not_all p (x ∷ xs) o (inr i) e = elim (either (p x)) [ inl t ↦ rw t (not_all p xs o i e) | inr f ↦ rw f refl ]

pub bytes_eq-sym : (xs ys : List ℕ) → bytes_eq xs ys ≡ bytes_eq ys xs
bytes_eq-sym [] [] = refl
bytes_eq-sym [] (y ∷ ys) = refl
bytes_eq-sym (x ∷ xs) [] = refl
bytes_eq-sym (x ∷ xs) (y ∷ ys) = let e : eqb x y ≡ eqb y x = grind (arith, nat_tests) in ap₂ (λ (p q : Bool). p && q) e (bytes_eq-sym xs ys)

-- a member that is like another
pub record IsLike (same : ℕ → ℕ → Bool) (rule : ℕ) (members : List ℕ) (broken place : ℕ) : Type 0 where
  pub rule_is : rule ≡ broken
  pub inside : In place members
  pub other : ℕ
  pub other_in : In other members
  pub apart : other ≢ place
  pub alike : same place other ≡ true

module _ (same : ℕ → ℕ → Bool) (rule : ℕ) where
  pub one_is_like : (before rest : List ℕ) → Distinct (before ++ rest) → (broken place : ℕ) → IsBroken (differ_rows rule same before rest) broken place → IsLike same rule (before ++ rest) broken place
  one_is_like before [] once broken place p = absurd p
  one_is_like before (m ∷ more) once broken place (inl p) =
      let o = one_of_any (same m) before (not-false _ p.2) in
      let here : m ≡ place = p.1 in
      subst (λ (x : ℕ). IsLike same rule (before ++ m ∷ more) broken x) here (record {
        rule_is = p.0;
        inside = In-middle before;
        other = o.0;
        other_in = In-left o.0 before o.1;
        apart = λ e. absurd (Distinct-middle before m more once (subst (λ (x : ℕ). In x before) e o.1));
        alike = o.2;
      })
    where
      In-middle : (xs : List ℕ) → In m (xs ++ m ∷ more)
      In-middle [] = inl refl
      In-middle (x ∷ xs) = inr (In-middle xs)

      In-left : (o : ℕ) (xs : List ℕ) → In o xs → In o (xs ++ m ∷ more)
      In-left o [] i = absurd i
      In-left o (x ∷ xs) (inl e) = inl e
      In-left o (x ∷ xs) (inr i) = inr (In-left o xs i)
  one_is_like before (m ∷ more) once broken place (inr p) =
      let e = append_assoc before (m ∷ []) more in
      subst (λ (xs : List ℕ). IsLike same rule xs broken place) e (one_is_like (before ++ m ∷ []) more (subst Distinct (sym e) once) broken place p)

  module _ (both_ways : (m o : ℕ) → same m o ≡ same o m) where
    pub none_is_like : (before rest : List ℕ) → Hold (differ_rows rule same before rest) → ((m o : ℕ) → In m before → In o before → o ≢ m → same m o ≡ false)
        → (m o : ℕ) → In m (before ++ rest) → In o (before ++ rest) → o ≢ m → same m o ≡ false
    none_is_like before [] holds known m o i j ne = known m o (subst (In m) (append-nil before) i) (subst (In o) (append-nil before) j) ne
    none_is_like before (x ∷ more) holds known m o i j ne =
        let e = sym (append_assoc before (x ∷ []) more) in
        none_is_like (before ++ x ∷ []) more holds.1 more_known m o (subst (In m) e i) (subst (In o) e j) ne
      where
        new : (o : ℕ) → In o before → same x o ≡ false
        new o i = none_of_any (same x) before (not-true _ holds.0) o i

        of_one : (o : ℕ) → In o (x ∷ []) → o ≡ x
        of_one o (inl e) = e
        of_one o (inr none) = absurd none

        more_known : (m o : ℕ) → In m (before ++ x ∷ []) → In o (before ++ x ∷ []) → o ≢ m → same m o ≡ false
        more_known m o i j ne = elim (In-append m before (x ∷ []) i) [
          | inl a ↦ elim (In-append o before (x ∷ []) j) [
            | inl c ↦ known m o a c ne
            | inr c ↦ both_ways m o ∙ ap (λ (z : ℕ). same z m) (of_one o c) ∙ new m a
          ]
          | inr a ↦ elim (In-append o before (x ∷ []) j) [
            | inl c ↦ ap (λ (z : ℕ). same z o) (of_one m a) ∙ new o c
            | inr c ↦ absurd (ne (of_one o c ∙ sym (of_one m a)))
          ]
        ]
