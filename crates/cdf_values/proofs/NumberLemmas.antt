-- Reading decimal digits up to a greatest number.
use Rattle.cdf_values.proofs.Common.{Bool, List, [], arith, cond, digits_from, false, fold, is_ascii_digit, list_all, nat_le, nat_tests, refl, true, with_digit, ℕ, ◌&&◌, ◌*◌, ◌+◌, ◌-◌, ◌∷◌, ◌≡◌, ◌≤◌}
use Rattle.std.specs.Prelude.{Some, None}

grows : (n : ℕ) (word : List ℕ) → n ≤ fold (λ n b. 10 * n + (b - 48)) n word
grows n [] = omega arith
grows n (b ∷ word) = let e = grows (10 * n + (b - 48)) word in omega arith

still_past : (most s big : ℕ) → s ≤ big → nat_le s most ≡ false → nat_le big most ≡ false
still_past most s big h e = grind (arith, nat_tests)

past_by : (all fits : Bool) (big : ℕ) → fits ≡ false → cond (all && fits) (Some big) None ≡ None
past_by true fits big h = rw h refl
past_by false fits big h = refl

stops_by : (is_digit fits : Bool) (most s : ℕ) (word : List ℕ) → nat_le s most ≡ fits → cond (is_digit && fits) (Some s) None ≡ None → cond ((is_digit && list_all is_ascii_digit word) && nat_le (fold (λ n b. 10 * n + (b - 48)) s word) most) (Some (fold (λ n b. 10 * n + (b - 48)) s word)) None ≡ None
stops_by true true most s word h e = cc
stops_by true false most s word h e =
    past_by (list_all is_ascii_digit word) _ (fold (λ n b. 10 * n + (b - 48)) s word) (still_past most s (fold (λ n b. 10 * n + (b - 48)) s word) (grows s word) h)
stops_by false fits most s word h e = refl

pub stops_at : (most n b : ℕ) (word : List ℕ) → with_digit most n b ≡ None → digits_from most n (b ∷ word) ≡ None
stops_at most n b word e = stops_by (is_ascii_digit b) (nat_le (10 * n + (b - 48)) most) most (10 * n + (b - 48)) word refl e
