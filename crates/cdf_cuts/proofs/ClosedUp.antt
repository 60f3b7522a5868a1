-- Items of which some go and later ones close up: which one has a number then, and that the numbers rise.
use Rattle.cdf_cuts.proofs.Common.{List, [], ap, arith, cases_eq, cases_lt, if◌then◌else◌, inl, inr, le-ltb, lt-ltb, nat_lt, nat_tests, refl, subst, sym, ℕ, ◌+◌, ◌-◌, ◌<◌, ◌∙◌, ◌∷◌, ◌≡◌, ◌≢◌, ◌≤◌, ◌⊎◌}
use Rattle.cdf_edits.proofs.Common.{closed_up, item_at, le-leb, lt-leb}
use Rattle.cdf_edits.proofs.Edits.NumberedItems.{Rising, none, one, rising_lower}
use Rattle.cdf_edits.proofs.Edits.NumberedLookup.{item_here, item_later}
use Rattle.cdf_edits.specs.Index.Blocks.{fallen}

module _ (first last : ℕ) (order : first ≤ last) where
  -- the number that a record had before others went
  abbrev pub risen : ℕ → ℕ
  risen k = if nat_lt k first then k else k + (last + 1 - first)

  pub risen_is : (k : ℕ) → ((k < first) × (risen k ≡ k)) ⊎ ((first ≤ k) × (risen k ≡ k + (last + 1 - first)))
  risen_is k = elim (cases_lt k first) [ inl lt ↦ inl (lt, rw (lt-ltb k first lt) refl) | inr ge ↦ inr (ge, rw (le-ltb k first ge) refl) ]

  pub fallen_risen : (k : ℕ) → fallen first last (risen k) ≡ k
  fallen_risen k = grind (arith, nat_tests)

  pub fallen_low : (k : ℕ) → k ≤ first → fallen first last k ≡ k
  fallen_low k le = grind (arith, nat_tests)

  pub fallen_high : (k : ℕ) → last < k → fallen first last k ≡ k - (last + 1 - first)
  fallen_high k lt = grind (arith, nat_tests)

  pub fallen_rises : (m n : ℕ) → m ≤ n → fallen first last m ≤ fallen first last n
  fallen_rises m n l = grind (arith, nat_tests)

  module _ {A : Type 0} where
    front : (m : ℕ) (a : A) (rest : List (ℕ × A)) → m < first → closed_up first last ((m, a) ∷ rest) ≡ (m, a) ∷ closed_up first last rest
    front m a rest lt = rw (lt-leb first m lt, le-ltb last m (omega arith)) refl

    gone : (m : ℕ) (a : A) (rest : List (ℕ × A)) → first ≤ m → m ≤ last → closed_up first last ((m, a) ∷ rest) ≡ closed_up first last rest
    gone m a rest low high = rw (le-leb first m low, le-leb m last high) refl

    back : (m : ℕ) (a : A) (rest : List (ℕ × A)) → last < m → closed_up first last ((m, a) ∷ rest) ≡ (m - (last + 1 - first), a) ∷ closed_up first last rest
    back m a rest lt = rw (le-leb first m (omega arith), lt-leb m last lt, lt-ltb last m lt) refl

    beside : (k n : ℕ) (a : A) (rest : List (ℕ × A)) (xs : List (ℕ × A)) (m : ℕ) → m ≢ k → n ≢ risen k → item_at k xs ≡ item_at (risen k) rest → item_at k ((m, a) ∷ xs) ≡ item_at (risen k) ((n, a) ∷ rest)
    beside k n a rest xs m ne ne' so = item_later k m a xs ne ∙ so ∙ sym (item_later (risen k) n a rest ne')

    here : (k n m : ℕ) (a : A) (rest : List (ℕ × A)) (xs : List (ℕ × A)) → m ≡ k → n ≡ risen k → item_at k ((m, a) ∷ xs) ≡ item_at (risen k) ((n, a) ∷ rest)
    here k n m a rest xs e e' = subst (λ (x : ℕ). item_at k ((x, a) ∷ xs) ≡ item_at (risen k) ((n, a) ∷ rest)) (sym e) (subst (λ (x : ℕ). item_at k ((k, a) ∷ xs) ≡ item_at (risen k) ((x, a) ∷ rest)) (sym e') (item_here k a xs ∙ sym (item_here (risen k) a rest)))

    step : (k m : ℕ) (a : A) (rest : List (ℕ × A)) → item_at k (closed_up first last rest) ≡ item_at (risen k) rest → item_at k (closed_up first last ((m, a) ∷ rest)) ≡ item_at (risen k) ((m, a) ∷ rest)
    step k m a rest so =
        let r = risen_is k in
        elim (cases_lt m first) [
          | inl lt ↦ ap (item_at k) (front m a rest lt) ∙ elim (cases_eq m k) [
            | inl e ↦ here k m m a rest (closed_up first last rest) e (elim r [ inl x ↦ e ∙ sym x.1 | inr x ↦ absurd (omega (arith, x.0)) ])
            | inr ne ↦ beside k m a rest (closed_up first last rest) m ne (λ q. elim r [ inl x ↦ ne (q ∙ x.1) | inr x ↦ absurd (omega (arith, x.1, x.0)) ]) so
          ]
          | inr ge ↦ elim (cases_lt last m) [
            | inl lt ↦ ap (item_at k) (back m a rest lt) ∙ elim (cases_eq (m - (last + 1 - first)) k) [
              | inl e ↦ here k m (m - (last + 1 - first)) a rest (closed_up first last rest) e (elim r [ inl x ↦ absurd (omega (arith, x.0)) | inr x ↦ omega (arith, x.1) ])
              | inr ne ↦ beside k m a rest (closed_up first last rest) (m - (last + 1 - first)) ne (λ q. elim r [ inl x ↦ absurd (omega (arith, x.1, x.0)) | inr x ↦ ne (omega (arith, x.1)) ]) so
            ]
            | inr le ↦ ap (item_at k) (gone m a rest ge le) ∙ so ∙ sym (item_later (risen k) m a rest (λ q. elim r [ inl x ↦ absurd (omega (arith, x.1, x.0)) | inr x ↦ absurd (omega (arith, x.1, x.0)) ]))
          ]
        ]

    pub item_closed : (k : ℕ) (items : List (ℕ × A)) → item_at k (closed_up first last items) ≡ item_at (risen k) items
    item_closed k [] = refl
    item_closed k (item ∷ rest) = step k item.0 item.1 rest (item_closed k rest)

    pub rising_closed : (low : ℕ) (items : List (ℕ × A)) → Rising low items → Rising (fallen first last low) (closed_up first last items)
    rising_closed low items none = none
    rising_closed low items (one {n = n} {a = a} {rest = rest} p r) =
        let more = rising_closed (n + 1) rest r in
        elim (cases_lt n first) [
          | inl lt ↦ subst (Rising (fallen first last low)) (sym (front n a rest lt)) (one (omega (arith, fallen_low low (omega arith))) (subst (λ (x : ℕ). Rising x (closed_up first last rest)) (fallen_low (n + 1) (omega arith)) more))
          | inr ge ↦ elim (cases_lt last n) [
            | inl lt ↦ subst (Rising (fallen first last low)) (sym (back n a rest lt)) (one (omega (arith, fallen_rises low n p, fallen_high n lt)) (subst (λ (x : ℕ). Rising x (closed_up first last rest)) (omega (arith, fallen_high (n + 1) (omega arith))) more))
            | inr le ↦ subst (Rising (fallen first last low)) (sym (gone n a rest ge le)) (rising_lower (fallen first last (n + 1)) (fallen first last low) (closed_up first last rest) (fallen_rises low (n + 1) (omega arith)) more)
          ]
        ]
