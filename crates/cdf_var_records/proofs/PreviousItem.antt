-- The last item below a number, of a list whose numbers rise, by what each number has.
use Rattle.cdf_var_records.proofs.Common.{List, None, Option, Some, [], ap, arith, item_at, le-ltb, lt-ltb, nat_lt, option_map, refl, sym, ℕ, ◌+◌, ◌<◌, ◌∙◌, ◌∷◌, ◌≡◌, ◌≤◌}
use Rattle.cdf_edits.proofs.Common.{cases_lt, filter, inl, inr}
use Rattle.cdf_edits.proofs.Edits.NumberedItems.{Order, Below, Equal, Above, order, Rising, none, one}
use Rattle.cdf_edits.proofs.Edits.NumberedLookup.{item_here, item_later, none_below}
use Rattle.cdf_model.specs.Numbered.{item_before}
use Rattle.cdf_var_records.proofs.NextItem.{Misses, later, not_missed}
use Rattle.std.specs.List.{last_or}

module _ {A : Type 0} (n : ℕ) where
  abbrev under : List (ℕ × A) → List (ℕ × A)
  under items = filter (λ pair. nat_lt pair.0 n) items

  -- no number below it has an item
  none_under : (low : ℕ) (items : List (ℕ × A)) → Rising low items → ((k : ℕ) → low ≤ k → k < n → Misses k items) → under items ≡ []
  none_under low items none miss = refl
  none_under low items (one {n = m} {a = a} {rest = rest} p r) miss = elim (cases_lt m n) [
    | inl lt ↦ absurd (not_missed m a rest (miss m p lt))
    | inr le ↦ rw (le-ltb m n le) (none_under (m + 1) rest r (λ k past lt. absurd (omega arith)))
  ]

  last_under : (at low : ℕ) (x : A) (items : List (ℕ × A)) (o : Option (ℕ × A)) → Rising low items → Some x ≡ item_at at items → at < n → ((k : ℕ) → at < k → k < n → Misses k items) → option_map (λ pair. pair.1) (last_or o (under items)) ≡ Some x
  last_under at low x items o none is lt miss = absurd (gone is)
    where
      gone : Some x ≡ None → ⊥
      gone q = cc
  last_under at low x items o (one {n = m} {a = a} {rest = rest} p r) is lt miss = by (λ less. last_under at (m + 1) x rest (Some (m, a)) r (is ∙ item_later at m a rest (λ q. absurd (omega arith))) lt (λ k low small. later k m a rest (omega arith) (miss k low small))) (order m at)
    where
      here : m ≡ at → option_map (λ pair. pair.1) (last_or (Some (m, a)) (under rest)) ≡ Some x
      here e =
          let same : Some a ≡ Some x = sym (is ∙ ap (λ k. item_at k ((m, a) ∷ rest)) (sym e) ∙ item_here m a rest) in
          rw (none_under (m + 1) rest r (λ k low small. later k m a rest (omega arith) (miss k (omega arith) small))) same

      past : at < m → Some x ≡ None
      past less = is ∙ none_below at m ((m, a) ∷ rest) less (one (omega arith) r)

      by : (m < at → option_map (λ pair. pair.1) (last_or (Some (m, a)) (under rest)) ≡ Some x) → Order m at → option_map (λ pair. pair.1) (last_or o (under ((m, a) ∷ rest))) ≡ Some x
      by so (Below less) = rw (lt-ltb m n (omega arith)) (so less)
      by so (Equal e) = rw (lt-ltb m n (omega arith)) (here e)
      by so (Above less) = absurd (let q = past less in cc)

  pub none_before : (items : List (ℕ × A)) → Rising 0 items → ((k : ℕ) → k < n → Misses k items) → item_before n items ≡ None
  none_before items r miss = ap (λ (xs : List (ℕ × A)). option_map (λ pair. pair.1) (last_or None xs)) (none_under 0 items r (λ k low lt. miss k lt))

  pub one_before : (at : ℕ) (x : A) (items : List (ℕ × A)) → Rising 0 items → Some x ≡ item_at at items → at < n → ((k : ℕ) → at < k → k < n → Misses k items) → item_before n items ≡ Some x
  one_before at x items r is lt miss = last_under at 0 x items None r is lt miss
