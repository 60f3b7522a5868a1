-- Which bytes a step may have changed (own).
use Rattle.std.specs.Prelude.{◌≡◌, ◌⊎◌, ◌<◌, ◌≤◌, ℕ, ◌+◌, List, [], ◌∷◌, length}
use Rattle.cdf_format.specs.Fields.{size_at}
use Rattle.cdf_format.specs.Records.{Field}
use Rattle.cdf_format.specs.Tiles.{In}
use Rattle.cdf_format.specs.Bytes.{byte}

-- some bytes of a record, from a place within it
pub record Touch : Type 0 where
  pub tile : ℕ
  pub place : ℕ
  pub width : ℕ

abbrev pub touch : ℕ → ℕ → ℕ → Touch
touch tile place width = record { tile = tile; place = place; width = width }

abbrev pub touched_field : ℕ → Field → Touch
touched_field tile f = touch tile f.place f.width

-- no touch has the byte at this place
abbrev pub Outside : List Touch → ℕ → Type 0
Outside [] place = Unit {0}
Outside (t ∷ more) place = ((place < t.tile + t.place) ⊎ (t.tile + t.place + t.width ≤ place)) × Outside more place

-- the same image but for these bytes, and for what follows its end
pub record Changed (b now : List ℕ) (touches : List Touch) : Type 0 where
  pub longer : length b ≤ length now
  pub same : (place : ℕ) → place < length b → Outside touches place → byte now place ≡ byte b place

-- they lie in records of the image, or behind all of them
abbrev pub Placed : List ℕ → List ℕ → ℕ → List Touch → Type 0
Placed b records upto [] = Unit {0}
Placed b records upto (t ∷ more) = ((In t.tile records × (t.place + t.width ≤ size_at b t.tile)) ⊎ (upto ≤ t.tile + t.place)) × Placed b records upto more

-- the bytes of a record from one place within it to another meet none of them
abbrev pub Misses : List Touch → ℕ → ℕ → ℕ → Type 0
Misses [] tile from upto = Unit {0}
Misses (t ∷ more) tile from upto = (tile ≡ t.tile → (upto ≤ t.place) ⊎ (t.place + t.width ≤ from)) × Misses more tile from upto

-- none is in these records
abbrev pub TouchesNone : List Touch → List ℕ → Type 0
TouchesNone [] records = Unit {0}
TouchesNone (t ∷ more) records = (In t.tile records → ⊥) × TouchesNone more records
