-- The records of an image fill it from one place on, one after the other (CDF Internal Format Description, "Internal Records", RecordSize).
use Rattle.std.specs.Prelude.{◌≡◌, ◌≤◌, ◌⊎◌, ℕ, zero, suc, ◌+◌, List, [], ◌∷◌, length, Bool, ◌&&◌, ◌==◌, nat_le, if◌then◌else◌}
use Rattle.cdf_format.specs.Fields.{size_at}
use Rattle.cdf_format.specs.Records.{past, cdr_place, record_type}
use Rattle.cdf_format.specs.Walks.{Walk, whole, stuck, after_first, records_of}

-- it stands in the list
abbrev pub In : ℕ → List ℕ → Type 0
In n [] = ⊥
In n (m ∷ more) = (n ≡ m) ⊎ In n more

-- none stands twice
abbrev pub Distinct : List ℕ → Type 0
Distinct [] = Unit {0}
Distinct (n ∷ more) = (In n more → ⊥) × Distinct more

-- the records at these offsets fill the bytes from one place to another
abbrev pub AreTiles : List ℕ → ℕ → ℕ → List ℕ → Type 0
AreTiles b from upto [] = from ≡ upto
AreTiles b from upto (tile ∷ more) = (tile ≡ from) × (past record_type ≤ size_at b tile) × AreTiles b (from + size_at b tile) upto more

-- a record with room for its size and its type that ends within the image
abbrev pub is_tile : List ℕ → ℕ → Bool
is_tile b place = nat_le (past record_type) (size_at b place) && nat_le (place + size_at b place) (length b)

-- the records from a place to the end of the image, if there are at most so many
unfoldable pub tiles_from : ℕ → List ℕ → ℕ → Walk
tiles_from zero b place = if place == length b then whole [] else stuck [] place
tiles_from (suc most) b place = if place == length b then whole [] else (if is_tile b place then after_first place (tiles_from most b (place + size_at b place)) else stuck [] place)

-- There are fewer records than bytes.
abbrev pub tiling : List ℕ → Walk
tiling b = tiles_from (length b) b cdr_place

-- the records of an image that has a tiling
abbrev pub tiles : List ℕ → List ℕ
tiles b = records_of (tiling b)
