-- Items by their numbers, which rise; and what becomes of them where one is put in.
use Rattle.cdf_edits.proofs.Common.{List, [], arith, cases_eq, cases_lt, eq-eqb, inl, inr, le-ltb, lt-ltb, ne_eqb, refl, subst, sym, with_item, ℕ, ◌+◌, ◌<◌, ◌∷◌, ◌≡◌, ◌≤◌}

-- ---- an item that is put in

module _ {A : Type 0} (n : ℕ) (a : A) where
  pub before_first : (m : ℕ) (c : A) (rest : List (ℕ × A)) → n < m → with_item n a ((m, c) ∷ rest) ≡ (n, a) ∷ (m, c) ∷ rest
  before_first m c rest lt = rw (lt-ltb n m lt) refl

  pub at_first : (m : ℕ) (c : A) (rest : List (ℕ × A)) → n ≡ m → with_item n a ((m, c) ∷ rest) ≡ (n, a) ∷ rest
  at_first m c rest e = rw (le-ltb n m (omega arith), eq-eqb n m e) refl

  pub behind_first : (m : ℕ) (c : A) (rest : List (ℕ × A)) → m < n → with_item n a ((m, c) ∷ rest) ≡ (m, c) ∷ with_item n a rest
  behind_first m c rest lt = rw (le-ltb n m (omega arith), ne_eqb n m (λ e. absurd (omega arith))) refl

pub data Order : ℕ → ℕ → Type 0 where
  Below : {n m : ℕ} → n < m → Order n m
  Equal : {n m : ℕ} → n ≡ m → Order n m
  Above : {n m : ℕ} → m < n → Order n m

pub order : (n m : ℕ) → Order n m
order n m = elim (cases_lt n m) [ inl lt ↦ Below lt | inr le ↦ elim (cases_eq n m) [ inl e ↦ Equal e | inr ne ↦ Above (omega arith) ] ]

module _ {A : Type 0} where
  -- the numbers rise, from above one on
  pub data Rising : ℕ → List (ℕ × A) → Type 0 where
    none : {low : ℕ} → Rising low []
    one : {low n : ℕ} {a : A} {rest : List (ℕ × A)} → low ≤ n → Rising (n + 1) rest → Rising low ((n, a) ∷ rest)

  pub rising_lower : (low low' : ℕ) (items : List (ℕ × A)) → low' ≤ low → Rising low items → Rising low' items
  rising_lower low low' items le none = none
  rising_lower low low' items le (one p r) = one (omega arith) r

  pub rising_with : (low n : ℕ) (a : A) (items : List (ℕ × A)) → low ≤ n → Rising low items → Rising low (with_item n a items)
  rising_with low n a items le none = one le none
  rising_with low n a items le (one {n = k} {a = c} {rest = rest} p r) = by (λ lt. rising_with (k + 1) n a rest (omega arith) r) (order n k)
    where
      by : (k < n → Rising (k + 1) (with_item n a rest)) → Order n k → Rising low (with_item n a ((k, c) ∷ rest))
      by so (Below lt) = subst (Rising low) (sym (before_first n a k c rest lt)) (one le (one (omega arith) r))
      by so (Equal e) = subst (Rising low) (sym (at_first n a k c rest e)) (one le (rising_lower (k + 1) (n + 1) rest (omega arith) r))
      by so (Above lt) = subst (Rising low) (sym (behind_first n a k c rest lt)) (one p (so lt))
