-- The items from a number on, of a list whose numbers rise, by what each number has.
use Rattle.cdf_var_records.proofs.Common.{List, None, Some, [], ap, arith, item_at, le-ltb, lt-ltb, refl, sym, ℕ, ◌+◌, ◌∙◌, ◌∷◌, ◌≡◌, ◌≤◌}
use Rattle.cdf_edits.proofs.Common.{◌<◌}
use Rattle.cdf_edits.proofs.Edits.NumberedItems.{Order, Below, Equal, Above, order, Rising, none, one}
use Rattle.cdf_edits.proofs.Edits.NumberedLookup.{item_here, item_later, none_below}
use Rattle.cdf_model.specs.Spots.{from_number}

module _ {A : Type 0} where
  skipped : (n m : ℕ) (a : A) (rest : List (ℕ × A)) → m < n → from_number n ((m, a) ∷ rest) ≡ from_number n rest
  skipped n m a rest lt = rw (lt-ltb m n lt) refl

  kept : (n m : ℕ) (a : A) (rest : List (ℕ × A)) → n ≤ m → from_number n ((m, a) ∷ rest) ≡ (m, a) ∷ from_number n rest
  kept n m a rest le = rw (le-ltb m n le) refl

  pub all_from : (n low : ℕ) (items : List (ℕ × A)) → n ≤ low → Rising low items → from_number n items ≡ items
  all_from n low items le none = refl
  all_from n low items le (one {n = m} {a = a} {rest = rest} p r) = kept n m a rest (omega arith) ∙ ap (λ l. (m, a) ∷ l) (all_from n (m + 1) rest (omega arith) r)

  abbrev pub Misses : ℕ → List (ℕ × A) → Type 0
  Misses k items = None ≡ item_at k items

  pub not_missed : (n : ℕ) (a : A) (rest : List (ℕ × A)) → Misses n ((n, a) ∷ rest) → ⊥
  not_missed n a rest e = absurd (let q = e ∙ item_here n a rest in gone q)
    where
      gone : None ≡ Some a → ⊥
      gone q = cc

  pub later : (k n : ℕ) (a : A) (rest : List (ℕ × A)) → n < k → Misses k ((n, a) ∷ rest) → Misses k rest
  later k n a rest lt e = e ∙ item_later k n a rest (λ q. absurd (omega arith))

  pub none_from : (from low : ℕ) (items : List (ℕ × A)) → Rising low items → ((k : ℕ) → from ≤ k → Misses k items) → from_number from items ≡ []
  none_from from low items none miss = refl
  none_from from low items (one {n = n} {a = a} {rest = rest} p r) miss = by (λ lt. none_from from (n + 1) rest r (λ k le. later_on lt k le)) (order n from)
    where
      later_on : n < from → (k : ℕ) → from ≤ k → Misses k rest
      later_on lt k le = later k n a rest (omega arith) (miss k le)

      by : (n < from → from_number from rest ≡ []) → Order n from → from_number from ((n, a) ∷ rest) ≡ []
      by so (Below lt) = skipped from n a rest lt ∙ so lt
      by so (Equal e) = absurd (not_missed n a rest (miss n (omega arith)))
      by so (Above lt) = absurd (not_missed n a rest (miss n (omega arith)))

  pub next_from : (from at low : ℕ) (x : A) (items : List (ℕ × A)) → Rising low items → Some x ≡ item_at at items → from ≤ at → ((k : ℕ) → from ≤ k → k < at → Misses k items) → from_number from items ≡ (at, x) ∷ from_number (at + 1) items
  next_from from at low x items none is le miss = absurd (gone is)
    where
      gone : Some x ≡ None → ⊥
      gone q = cc
  next_from from at low x items (one {n = n} {a = a} {rest = rest} p r) is le miss = by (λ lt. next_from from at (n + 1) x rest r (is ∙ item_later at n a rest (λ q. absurd (omega arith))) le (λ k low small. later k n a rest (omega arith) (miss k low small))) (order n from) (order n at)
    where
      same : n ≡ at → x ≡ a
      same e = let q : Some x ≡ Some a = is ∙ ap (λ k. item_at k ((n, a) ∷ rest)) (sym e) ∙ item_here n a rest in cc

      past : at < n → Some x ≡ None
      past lt = is ∙ none_below at n ((n, a) ∷ rest) lt (one (omega arith) r)

      here : from ≤ n → n ≡ at → from_number from ((n, a) ∷ rest) ≡ (at, x) ∷ from_number (at + 1) ((n, a) ∷ rest)
      here low e =
          kept from n a rest low ∙ ap (λ l. (n, a) ∷ l) (all_from from (n + 1) rest (omega arith) r ∙ sym (all_from (n + 1) (n + 1) rest (omega arith) r) ∙ sym (skipped (n + 1) n a rest (omega arith)))
          ∙ (λ i. (e i, sym (same e) i) ∷ from_number (e i + 1) ((n, a) ∷ rest))

      by : (n < from → from_number from rest ≡ (at, x) ∷ from_number (at + 1) rest) → Order n from → Order n at → from_number from ((n, a) ∷ rest) ≡ (at, x) ∷ from_number (at + 1) ((n, a) ∷ rest)
      by so (Below lt) o = skipped from n a rest lt ∙ so lt ∙ ap (λ l. (at, x) ∷ l) (sym (skipped (at + 1) n a rest (omega arith)))
      by so (Equal e) (Below lt) = absurd (not_missed n a rest (miss n (omega arith) lt))
      by so (Equal e) (Equal q) = here (omega arith) q
      by so (Equal e) (Above lt) = absurd (let q = past lt in cc)
      by so (Above lt) (Below less) = absurd (not_missed n a rest (miss n (omega arith) less))
      by so (Above lt) (Equal q) = here (omega arith) q
      by so (Above lt) (Above less) = absurd (let q = past less in cc)
