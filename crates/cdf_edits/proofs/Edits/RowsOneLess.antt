-- The rules on the numbers of the records of a chain of which one goes: those behind it have numbers less by one.
use Rattle.cdf_edits.proofs.Common.{Field, Hold, In, List, [], ap, arith, eq-eqb, inl, inr, length, number, number_rows, refl, suc, ℕ, ◌++◌, ◌+◌, ◌==◌, ◌∙◌, ◌∷◌, ◌≡◌}

-- records have the numbers from one on
abbrev pub AreNumbered : List ℕ → Field → ℕ → List ℕ → Type 0
AreNumbered now f n [] = Unit {0}
AreNumbered now f n (m ∷ more) = (number now m f ≡ n) × AreNumbered now f (suc n) more

pub numbered_still : (b now : List ℕ) (f : Field) (n : ℕ) (ms : List ℕ) → ((m : ℕ) → In m ms → number now m f ≡ number b m f) → AreNumbered b f n ms → AreNumbered now f n ms
numbered_still b now f n [] same says = tt
numbered_still b now f n (m ∷ ms) same says = (same m (inl refl) ∙ says.0, numbered_still b now f (suc n) ms (λ x i. same x (inr i)) says.1)

module _ (rule : ℕ) (f : Field) where
  rows_front : (b : List ℕ) (n : ℕ) (xs ys : List ℕ) → Hold (number_rows rule b f n (xs ++ ys)) → Hold (number_rows rule b f n xs)
  rows_front b n [] ys h = tt
  rows_front b n (x ∷ xs) ys h = (h.0, rows_front b (suc n) xs ys h.1)

  rows_joined : (b : List ℕ) (n k : ℕ) (xs ys : List ℕ) → n + length xs ≡ k → Hold (number_rows rule b f n xs) → AreNumbered b f k ys → Hold (number_rows rule b f n (xs ++ ys))
  rows_joined b n k [] [] e h says = tt
  rows_joined b n k [] (y ∷ ys) e h says = (eq-eqb (number b y f) n (let s = says.0 in omega arith), rows_joined b (suc n) (suc k) [] ys (omega arith) tt says.1)
  rows_joined b n k (x ∷ xs) ys e h says = (h.0, rows_joined b (suc n) k xs ys (omega arith) h.1 says)

  rows_kept : (b now : List ℕ) (n : ℕ) (xs : List ℕ) → ((m : ℕ) → In m xs → number now m f ≡ number b m f) → Hold (number_rows rule b f n xs) → Hold (number_rows rule now f n xs)
  rows_kept b now n [] same h = tt
  rows_kept b now n (x ∷ xs) same h = (ap (λ (m : ℕ). m == n) (same x (inl refl)) ∙ h.0, rows_kept b now (suc n) xs (λ m i. same m (inr i)) h.1)

  pub one_less : (b now : List ℕ) (front : List ℕ) (own : ℕ) (back : List ℕ) → ((m : ℕ) → In m front → number now m f ≡ number b m f) → AreNumbered now f (length front) back → Hold (number_rows rule b f 0 (front ++ own ∷ back)) → Hold (number_rows rule now f 0 (front ++ back))
  one_less b now front own back same says h = rows_joined now 0 (length front) front back (omega arith) (rows_kept b now 0 front same (rows_front b 0 front (own ∷ back) h)) says
