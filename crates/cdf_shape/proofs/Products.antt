-- Products that stop at a greatest number.
use Rattle.std.proofs.Common.{◌≡◌, ℕ, zero, suc, ◌+◌, ◌*◌, ◌<◌, ◌≤◌, min, Bool, true, false, List, [], length, drop, get_or, refl, ◌∙◌, inl, inr, arith}
use Rattle.std.proofs.Math.Nat.{mul_assoc}
use Rattle.std.proofs.lemmas.Bool.{cases_lt}
use Rattle.std.proofs.lemmas.List.{drop_all, drop_more}
use Rattle.cdf_model.specs.Place.{value_count}

above : (p rest most : ℕ) → most < p → min (most * rest) most ≡ min (p * rest) most
above p zero most passes = omega arith
above p (suc rest) most passes = omega arith

-- a product that stopped comes to what the whole product does
stopped : (p n rest most : ℕ) → min (min (p * n) most * rest) most ≡ min (p * (n * rest)) most
stopped p n rest most = rw (← mul_assoc p n rest) (elim (cases_lt most (p * n)) [
  | inl passes ↦ let stops : min (p * n) most ≡ most = omega arith in rw stops (above (p * n) rest most passes)
  | inr within ↦ let stays : min (p * n) most ≡ p * n = omega arith in rw stays refl
])

-- one more size that varies
pub more_values : (p : ℕ) (dims : List ℕ) (varys : List Bool) (k whole most : ℕ) → k < length dims → k < length varys → get_or varys k false ≡ true
    → min (p * value_count (drop k dims) (drop k varys)) most ≡ whole
    → min (min (p * get_or dims k 0) most * value_count (drop (k + 1) dims) (drop (k + 1) varys)) most ≡ whole
more_values p dims varys k whole most in_dims in_varys varies so_far =
    stopped p (get_or dims k 0) _ most ∙ (rw (drop_more dims k 0 in_dims, drop_more varys k false in_varys, varies) at so_far)

-- no size is left
pub no_more_values : (p : ℕ) (dims : List ℕ) (varys : List Bool) (k whole most : ℕ) → length dims ≤ k → p ≤ most
    → min (p * value_count (drop k dims) (drop k varys)) most ≡ whole → p ≡ whole
no_more_values p dims varys k whole most none_left fits so_far =
    let none : drop k dims ≡ [] = drop_all k dims none_left in
    omega (arith, rw none at so_far)
