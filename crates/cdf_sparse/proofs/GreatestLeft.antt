-- The greatest number of items whose numbers rise: from past it on no number has an item. And what `del-recs` leaves of a variable under a rule for missing records.
use Rattle.cdf_edits.proofs.Common.{List, None, Option, Some, Variable, [], ap, arith, cases_lt, extent, inl, inr, is_sparse, item_at, last_number, negsuc, option_map, pos, refl, suc, sym, true, without, ℕ, ℤ, ◌+◌, ◌<◌, ◌∙◌, ◌∷◌, ◌≡◌, ◌≤◌}
use Rattle.cdf_edits.proofs.Edits.NumberedItems.{Rising, one}
use Rattle.cdf_edits.proofs.Edits.NumberedLookup.{item_here, item_later}
use Rattle.cdf_model.specs.Numbered.{greatest}
use Rattle.cdf_model.specs.RecordSteps.{without_records}
use Rattle.cdf_model.specs.declared.kinds.Sparse.{Sparse}
use Rattle.cdf_model.specs.declared.kinds.Sparse.TheVariants.{NoRule, Pad, Previous}
use Rattle.std.specs.List.{last_or}

-- MaxRec by the greatest number
abbrev pub greatest_is : Option ℕ → ℤ
greatest_is o = elim o [ None ↦ negsuc 0 | Some n ↦ pos n ]

pub last_greatest : (o : Option ℕ) → last_number (extent (greatest_is o)) ≡ greatest_is o
last_greatest None = refl
last_greatest (Some n) = let e : n + 1 ≡ suc n = omega arith in ap last_number e

module _ {A : Type 0} where
  -- the last of some items
  abbrev final : ℕ × A → List (ℕ × A) → ℕ × A
  final x [] = x
  final x (y ∷ ys) = final y ys

  final_is : (x : ℕ × A) (ys : List (ℕ × A)) → last_or (Some x) ys ≡ Some (final x ys)
  final_is x [] = refl
  final_is x (y ∷ ys) = final_is y ys

  final_from : (x : ℕ × A) (ys : List (ℕ × A)) → Rising (x.0 + 1) ys → x.0 ≤ (final x ys).0
  final_from x [] r = omega arith
  final_from x (y ∷ ys) (one p r) = omega (arith, final_from y ys r, p)

  none_behind : (k : ℕ) (x : ℕ × A) (ys : List (ℕ × A)) → Rising (x.0 + 1) ys → (final x ys).0 < k → item_at k (x ∷ ys) ≡ None
  none_behind k x [] r lt = item_later k x.0 x.1 [] (λ e. absurd (omega (arith, e, lt)))
  none_behind k x (y ∷ ys) (one p r) lt = item_later k x.0 x.1 (y ∷ ys) (λ e. absurd (omega (arith, e, lt, p, final_from y ys r))) ∙ none_behind k y ys r lt

  final_there : (x : ℕ × A) (ys : List (ℕ × A)) → Rising (x.0 + 1) ys → item_at (final x ys).0 (x ∷ ys) ≡ Some (final x ys).1
  final_there x [] r = item_here x.0 x.1 []
  final_there x (y ∷ ys) (one p r) = item_later (final y ys).0 x.0 x.1 (y ∷ ys) (λ e. absurd (omega (arith, e, p, final_from y ys r))) ∙ final_there y ys r

  greatest_more : (x : ℕ × A) (ys : List (ℕ × A)) → extent (greatest_is (greatest (x ∷ ys))) ≡ (final x ys).0 + 1
  greatest_more x ys = ap (λ (o : Option (ℕ × A)). extent (greatest_is (option_map (λ (pair : ℕ × A). pair.0) o))) (final_is x ys)

  -- past the greatest number there is no item
  pub past_greatest : (low k : ℕ) (items : List (ℕ × A)) → Rising low items → extent (greatest_is (greatest items)) ≤ k → item_at k items ≡ None
  past_greatest low k [] r le = refl
  past_greatest low k (x ∷ ys) (one p r) le = none_behind k x ys r (omega (arith, greatest_more x ys, le))

  -- and it is below each number from which on there is no item
  pub greatest_below : (low most : ℕ) (items : List (ℕ × A)) → Rising low items → ((k : ℕ) → most ≤ k → item_at k items ≡ None) → extent (greatest_is (greatest items)) ≤ most
  greatest_below low most [] r past = omega arith
  greatest_below low most (x ∷ ys) (one p r) past = elim (cases_lt (final x ys).0 most) [
    | inl lt ↦ omega (arith, greatest_more x ys, lt)
    | inr le ↦ (let q : Some (final x ys).1 ≡ None = sym (final_there x ys r) ∙ past (final x ys).0 le in absurd cc)
  ]

-- ---- under a rule no number changes

pub without_ruled : (rule : Sparse) (v : Variable) (first last : ℕ) → is_sparse rule ≡ true → without_records rule v first last ≡ record v { recs = without first last v.recs; max_rec = greatest_is (greatest (without first last v.recs)) }
without_ruled NoRule v first last e = absurd cc
without_ruled Pad v first last e = refl
without_ruled Previous v first last e = refl
