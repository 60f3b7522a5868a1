-- A stretch of bytes other than 0, which stand for themselves.
use Rattle.std.proofs.Common.{◌≡◌, ℕ, zero, suc, ◌+◌, ◌-◌, ◌<◌, ◌≤◌, List, [], ◌∷◌, ◌++◌, length, take, drop, get_or, ap, refl, arith}
use Rattle.cdf_model.specs.RunLengths.{Packs, IsLongest, is_cut, plain_of}
use Rattle.cdf_rle.specs.Filling.{first_past}
use Rattle.cdf_rle.specs.Stretches.{data_length}

pub data_length-le : (xs : List ℕ) → data_length xs ≤ length xs
data_length-le [] = omega arith
data_length-le (zero ∷ xs) = omega arith
data_length-le (suc b ∷ xs) = omega (arith, data_length-le xs)

pub data_length-some : (xs : List ℕ) → 0 < get_or xs 0 0 → 0 < data_length xs
data_length-some [] some = absurd (omega arith)
data_length-some (zero ∷ xs) some = absurd (omega arith)
data_length-some (suc b ∷ xs) some = omega arith

pub plain_of-data : (xs : List ℕ) → plain_of xs ≡ take (data_length xs) xs ++ plain_of (drop (data_length xs) xs)
plain_of-data [] = refl
plain_of-data (zero ∷ xs) = refl
plain_of-data (suc b ∷ xs) = ap (λ (ys : List ℕ). suc b ∷ ys) (plain_of-data xs)

pub is_cut-data : (xs : List ℕ) → is_cut xs ≡ is_cut (drop (data_length xs) xs)
is_cut-data [] = refl
is_cut-data (zero ∷ xs) = refl
is_cut-data (suc b ∷ xs) = is_cut-data xs

pub first_past-data : (xs : List ℕ) (room : ℕ) → data_length xs ≤ room → first_past xs room ≡ data_length xs + first_past (drop (data_length xs) xs) (room - data_length xs)
first_past-data [] room fits = omega arith
first_past-data (zero ∷ xs) room fits = let same : room - 0 ≡ room = omega arith in rw same (omega arith)
first_past-data (suc b ∷ xs) zero fits = absurd (omega arith)
first_past-data (suc b ∷ xs) (suc room) fits =
    let less : suc room - suc (data_length xs) ≡ room - data_length xs = omega arith in
    rw less (omega (arith, first_past-data xs room (omega arith)))

pub first_past-in_data : (xs : List ℕ) (room : ℕ) → room < data_length xs → first_past xs room ≡ room
first_past-in_data [] room past = absurd (omega arith)
first_past-in_data (zero ∷ xs) room past = absurd (omega arith)
first_past-in_data (suc b ∷ xs) zero past = refl
first_past-in_data (suc b ∷ xs) (suc room) past = ap suc (first_past-in_data xs room (omega arith))

pub packs-data : (xs packed : List ℕ) → Packs packed (drop (data_length xs) xs) → Packs (take (data_length xs) xs ++ packed) xs
packs-data [] packed packs = packs
packs-data (zero ∷ xs) packed packs = packs
packs-data (suc b ∷ xs) packed packs = (xs, refl, packs-data xs packed packs)

pub longest-data : (xs packed : List ℕ) → IsLongest packed → IsLongest (take (data_length xs) xs ++ packed)
longest-data [] packed longest = longest
longest-data (zero ∷ xs) packed longest = longest
longest-data (suc b ∷ xs) packed longest = longest-data xs packed longest
