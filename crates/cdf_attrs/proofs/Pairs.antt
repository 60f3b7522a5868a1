-- Numbers and places, paired.
use Rattle.std.proofs.Common.{List, [], ap, arith, drop, length, map, min, refl, suc, zero, ℕ, ◌∷◌, ◌≡◌}
use Rattle.std.specs.List.{zip}

-- no pair is left behind them all
pub none_left : (ks vs : List ℕ) (n : ℕ) → n ≡ min (length ks) (length vs) → zip (drop n ks) (drop n vs) ≡ []
none_left [] vs zero all = refl
none_left [] vs (suc n) all = refl
none_left (k ∷ ks) [] zero all = refl
none_left (k ∷ ks) [] (suc n) all = absurd (omega arith)
none_left (k ∷ ks) (v ∷ vs) zero all = absurd (omega arith)
none_left (k ∷ ks) (v ∷ vs) (suc n) all = none_left ks vs n (omega arith)

-- the pairs of what a function gives
pub zip-mapped : (f : ℕ → ℕ) (xs : List ℕ) → zip (map f xs) xs ≡ map (λ x. (f x, x)) xs
zip-mapped f [] = refl
zip-mapped f (x ∷ xs) = ap (λ (rest : List (ℕ × ℕ)). (f x, x) ∷ rest) (zip-mapped f xs)
