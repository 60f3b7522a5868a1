-- How packed bytes fill a room of so many bytes, and how they fail to.
use Rattle.std.specs.Prelude.{ℕ, zero, suc, ◌≡◌, ◌<◌, ◌+◌, ◌-◌, List, [], ◌∷◌, length, nat_lt, if◌then◌else◌, IsSomeAnd}
use Rattle.cdf_model.specs.RunLengths.{unpacked}
use Rattle.cdf_rle.specs.declared.reading.RleError.{RleError}
use Rattle.cdf_rle.specs.declared.reading.RleError.TheVariants.{Cut, TooLong, TooShort}

-- they stand for as many bytes as there is room for
abbrev pub Fills : List ℕ → ℕ → Type 0
Fills packed room = IsSomeAnd (unpacked packed) (λ plain. length plain ≡ room)

-- the place of the first item that passes the end of the room
abbrev pub first_past : List ℕ → ℕ → ℕ
first_past [] room = 0
first_past (suc b ∷ more) zero = 0
first_past (suc b ∷ more) (suc room) = suc (first_past more room)
first_past (zero ∷ []) room = 0
first_past (zero ∷ n ∷ more) room = if nat_lt n room then 2 + first_past more (room - suc n) else 0

-- they stand for more, and the item at this place is the first that passes the end
abbrev pub PassesEnd : List ℕ → ℕ → ℕ → Type 0
PassesEnd packed room at = IsSomeAnd (unpacked packed) (λ plain. (room < length plain) × (at ≡ first_past packed room))

-- they stand for so many bytes, which are fewer
abbrev pub StopsShort : List ℕ → ℕ → ℕ → Type 0
StopsShort packed room got = IsSomeAnd (unpacked packed) (λ plain. (length plain < room) × (got ≡ length plain))

-- why packed bytes in which each 0 has its count do not fill the room
abbrev pub IsMisfit : List ℕ → ℕ → RleError → Type 0
IsMisfit packed room Cut = ⊥
IsMisfit packed room (TooLong at) = PassesEnd packed room at
IsMisfit packed room (TooShort got) = StopsShort packed room got
