-- Sizes of dimensions that are not refused.
use Rattle.cdf_vars.proofs.Common.{Each, List, [], and_from, are_bad_sizes, arith, false, is_positive, le-leb, length, list_all, list_any, ltb-false, nat_lt, nat_tests, or_parts, refl, signed_limit, true, ℕ, ◌<◌, ◌==◌, ◌^◌, ◌∷◌, ◌≡◌, ◌≤◌}
use Rattle.std.proofs.Common.{◌||◌}
use Rattle.cdf_model.specs.Limits.{dimension_limit}

abbrev pub IsSize : ℕ → Type 0
IsSize size = (1 ≤ size) × (size ≤ signed_limit)

pub not_zero : (n : ℕ) → (n == 0) ≡ false → 1 ≤ n
not_zero n e = grind (arith, nat_tests)

each_size : (dims : List ℕ) → list_any (λ size. (size == 0) || nat_lt signed_limit size) dims ≡ false → Each IsSize dims
each_size [] e = tt
each_size (size ∷ dims) e =
    let p = or_parts ((size == 0) || nat_lt signed_limit size) (list_any (λ size. (size == 0) || nat_lt signed_limit size) dims) e in
    let q = or_parts (size == 0) (nat_lt signed_limit size) p.0 in
    ((not_zero size q.0, ltb-false signed_limit size q.1), each_size dims p.1)

pub positive_sizes : (dims : List ℕ) → Each IsSize dims → list_all is_positive dims ≡ true
positive_sizes [] sizes = refl
positive_sizes (n ∷ dims) sizes = and_from _ _ (and_from _ _ (le-leb 1 n sizes.0.0) (le-leb n signed_limit sizes.0.1)) (positive_sizes dims sizes.1)

pub signed_small : (n : ℕ) → n ≤ signed_limit → n < 256 ^ 4
signed_small n l = omega arith

pub sizes_small : (dims : List ℕ) → Each IsSize dims → Each (λ n. n < 256 ^ 4) dims
sizes_small [] sizes = tt
sizes_small (n ∷ dims) sizes = (signed_small n sizes.0.1, sizes_small dims sizes.1)

-- of all of them
pub fine_sizes : (dims : List ℕ) → are_bad_sizes dims ≡ false → (length dims ≤ dimension_limit) × Each IsSize dims
fine_sizes dims e = let d = or_parts (nat_lt dimension_limit (length dims)) (list_any (λ size. (size == 0) || nat_lt signed_limit size) dims) e in (ltb-false dimension_limit (length dims) d.0, each_size dims d.1)
