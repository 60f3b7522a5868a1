-- Run-length encoding of zeros (CDF Internal Format Description, "Compressed Parameters Record", cType 1).
-- Packed bytes are items: a byte other than 0, which stands for itself, or a pair of 0 and a count n, which stands for n + 1 zeros.
use Rattle.std.specs.Prelude.{ℕ, zero, suc, ◌<◌, ◌≡◌, List, [], ◌∷◌, ◌++◌, replicate, Bool, true, false, if◌then◌else◌, Some, None}
use Rattle.std.specs.declared.option.Option.{Option}

-- packed bytes, and plain bytes that they stand for
abbrev pub Packs : List ℕ → List ℕ → Type 0
Packs [] plain = plain ≡ []
Packs (suc b ∷ more) plain = (rest : List ℕ) × (plain ≡ suc b ∷ rest) × Packs more rest
Packs (zero ∷ []) plain = ⊥
Packs (zero ∷ n ∷ more) plain = (rest : List ℕ) × (plain ≡ replicate (suc n) 0 ++ rest) × Packs more rest

-- a last 0 has no count
abbrev pub is_cut : List ℕ → Bool
is_cut [] = false
is_cut (suc b ∷ more) = is_cut more
is_cut (zero ∷ []) = true
is_cut (zero ∷ n ∷ more) = is_cut more

-- what all items stand for
abbrev pub plain_of : List ℕ → List ℕ
plain_of [] = []
plain_of (suc b ∷ more) = suc b ∷ plain_of more
plain_of (zero ∷ []) = []
plain_of (zero ∷ n ∷ more) = replicate (suc n) 0 ++ plain_of more

-- the plain bytes; none where a last 0 has no count
abbrev pub unpacked : List ℕ → Option (List ℕ)
unpacked packed = if is_cut packed then None else Some (plain_of packed)

-- a pair stands first
abbrev pub begins_pair : List ℕ → Bool
begins_pair (zero ∷ n ∷ more) = true
begins_pair packed = false

-- the runs are as long as a count allows: no pair that stands for fewer than 256 zeros is followed directly by another
abbrev pub IsLongest : List ℕ → Type 0
IsLongest [] = Unit {0}
IsLongest (suc b ∷ more) = IsLongest more
IsLongest (zero ∷ []) = Unit {0}
IsLongest (zero ∷ n ∷ more) = (n < 255 → begins_pair more ≡ false) × IsLongest more
