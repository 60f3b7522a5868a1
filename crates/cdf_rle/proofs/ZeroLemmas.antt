-- A run of zeros, for which a pair stands.
use Rattle.std.proofs.Common.{◌≡◌, ℕ, zero, suc, ◌<◌, ◌≤◌, List, [], ◌∷◌, ◌++◌, length, drop, replicate, get_or, false, ap, refl, arith}
use Rattle.std.specs.Prelude.{min}
use Rattle.cdf_model.specs.RunLengths.{Packs, IsLongest, begins_pair}
use Rattle.cdf_rle.specs.Stretches.{zero_length}

pub zero_length-le : (xs : List ℕ) → zero_length xs ≤ length xs
zero_length-le [] = omega arith
zero_length-le (zero ∷ xs) = omega (arith, zero_length-le xs)
zero_length-le (suc b ∷ xs) = omega arith

pub zero_length-some : (xs : List ℕ) → 0 < length xs → get_or xs 0 0 ≡ 0 → 0 < zero_length xs
zero_length-some [] some is_zero = absurd (omega arith)
zero_length-some (zero ∷ xs) some is_zero = omega arith
zero_length-some (suc b ∷ xs) some is_zero = absurd (omega arith)

zeros_first : (n : ℕ) (xs : List ℕ) → n ≤ zero_length xs → xs ≡ replicate n 0 ++ drop n xs
zeros_first zero xs within = refl
zeros_first (suc n) [] within = absurd (omega arith)
zeros_first (suc n) (zero ∷ xs) within = ap (λ (ys : List ℕ). 0 ∷ ys) (zeros_first n xs (omega arith))
zeros_first (suc n) (suc b ∷ xs) within = absurd (omega arith)

no_zero_next : (xs : List ℕ) → zero_length (drop (zero_length xs) xs) ≡ 0
no_zero_next [] = refl
no_zero_next (zero ∷ xs) = no_zero_next xs
no_zero_next (suc b ∷ xs) = refl

begins_pair-data : (packed xs : List ℕ) → zero_length xs ≡ 0 → Packs packed xs → begins_pair packed ≡ false
begins_pair-data [] xs none packs = refl
begins_pair-data (suc b ∷ more) xs none packs = refl
begins_pair-data (zero ∷ []) xs none packs = refl
begins_pair-data (zero ∷ n ∷ more) xs none (rest, e, packs) =
    let some : zero_length xs ≡ suc (zero_length (replicate n 0 ++ rest)) = ap zero_length e in
    absurd (omega arith)

pub packs-run : (xs packed : List ℕ) (n : ℕ) → suc n ≤ zero_length xs → Packs packed (drop (suc n) xs) → Packs (0 ∷ n ∷ packed) xs
packs-run xs packed n within packs = (drop (suc n) xs, zeros_first (suc n) xs within, packs)

pub longest-run : (xs packed : List ℕ) (n : ℕ) → suc n ≡ min 256 (zero_length xs) → Packs packed (drop (suc n) xs) → IsLongest packed → IsLongest (0 ∷ n ∷ packed)
longest-run xs packed n all packs longest = (
  λ short.
      let run : suc n ≡ zero_length xs = omega arith in
      begins_pair-data packed (drop (suc n) xs) (rw run (no_zero_next xs)) packs,
  longest,
)
