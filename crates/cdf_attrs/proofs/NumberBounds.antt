-- Numbers of which none is greater than a bound.
use Rattle.cdf_attrs.proofs.Common.{All, All-head, All-tail, FitsSigned, List, None, Option, Some, [], ap, arith, eq_of, fold, ints, pos, position, position-Some, refl, remove, signed_limit, subst, suc, sym, to_z_pos, ℕ, ◌<◌, ◌==◌, ◌∙◌, ◌∷◌, ◌≡◌, ◌≤◌}
use Rattle.std.proofs.Common.{drop, max, take, to_z, w32}
use Rattle.std.proofs.lemmas.List.Elements.{All-append, All-drop, All-take}

-- a number past the bound is none of them
pub none_above : (num bound : ℕ) (xs : List ℕ) → bound < num → All (λ n. n ≤ bound) xs → None ≡ position (λ n. n == num) xs
none_above num bound xs lt all = of (position (λ n. n == num) xs) refl
  where
    of : (r : Option ℕ) → position (λ n. n == num) xs ≡ r → None ≡ r
    of None e = refl
    of (Some i) e =
        let at = position-Some (λ n. n == num) xs i 0 e in
        let same = eq_of _ _ at.1 in
        let le = all i 0 at.0 in
        absurd (omega (arith, same, le, lt))

-- the greatest of them and of a number that is not below the bound is this number
pub greatest_within : (num bound : ℕ) (xs : List ℕ) → bound ≤ num → All (λ n. n ≤ bound) xs → fold max num xs ≡ num
greatest_within num bound [] le all = refl
greatest_within num bound (x ∷ xs) le all =
    let head = All-head (λ n. n ≤ bound) x xs all in
    let same : max num x ≡ num = omega (arith, head, le) in
    ap (λ (m : ℕ). fold max m xs) same ∙ greatest_within num bound xs le (All-tail (λ n. n ≤ bound) x xs all)

pub number_fits : (num bound : ℕ) (xs : List ℕ) → bound ≤ num → All (λ n. n ≤ bound) xs → fold max num xs ≤ signed_limit → FitsSigned w32 (pos num)
number_fits num bound xs le all small = let same = greatest_within num bound xs le all in omega (arith, ints, same, small)

pub is_greatest : (num bound : ℕ) (xs : List ℕ) → bound ≤ num → All (λ n. n ≤ bound) xs → fold max num xs ≤ signed_limit → to_z w32 num ≡ pos (fold max num xs)
is_greatest num bound xs le all small =
    let same = greatest_within num bound xs le all in
    to_z_pos w32 num (omega (arith, same, small)) ∙ ap pos (sym same)

-- so are those that are left
pub bound_left : (bound : ℕ) (xs left : List ℕ) (i : ℕ) → left ≡ remove xs i → All (λ n. n ≤ bound) xs → All (λ n. n ≤ bound) left
bound_left bound xs left i is all =
    subst (All (λ n. n ≤ bound)) (sym is) (All-append (λ n. n ≤ bound) (take i xs) (drop (suc i) xs) (All-take (λ n. n ≤ bound) i xs all) (All-drop (λ n. n ≤ bound) (suc i) xs all))
