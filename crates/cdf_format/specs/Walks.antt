-- A walk from record to record (own).
use Rattle.std.specs.Prelude.{ℕ, List, [], ◌∷◌}

-- the records that it met; or where it leads wrong, those that it met before and the place
pub data Walk : Type 0 where
  whole : List ℕ → Walk
  stuck : List ℕ → ℕ → Walk

-- what it met: where it leads wrong, only on the way
abbrev pub met_by : Walk → List ℕ
met_by (whole records) = records
met_by (stuck records place) = records

-- the records of a walk that does not lead wrong
abbrev pub records_of : Walk → List ℕ
records_of (whole records) = records
records_of (stuck records place) = []

-- a walk that begins with one record more
abbrev pub after_first : ℕ → Walk → Walk
after_first first (whole records) = whole (first ∷ records)
after_first first (stuck records place) = stuck (first ∷ records) place
