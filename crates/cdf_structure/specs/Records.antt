-- The records of an image, in one walk over them.
use Rattle.std.specs.Prelude.{◌≡◌, ℕ, List, [], ◌∷◌, ◌==◌, nat_le, Ok, Err}
use Rattle.std.specs.declared.result.Result.{Result}
use Rattle.std.specs.List.{filter, flat_map}
use Rattle.cdf_format.specs.Fields.{type_at}
use Rattle.cdf_format.specs.RecordRules.{record_rows}
use Rattle.cdf_format.specs.RecordTypes.{is_record_type, fixed_size, uir_type}
use Rattle.cdf_format.specs.Rules.{Row, row}
use Rattle.cdf_format.specs.Tiles.{tiling}
use Rattle.cdf_format.specs.Walks.{whole, stuck}
use Rattle.cdf_structure.specs.Findings.{Finds}
use Rattle.cdf_structure.specs.declared.tiles.Records.{Records}
use Rattle.cdf_structure.specs.declared.tiles.Walked.{Walked}

-- those of these records that are unused
abbrev pub unused_of : List ℕ → List ℕ → List ℕ
unused_of b places = filter (λ place. type_at b place == uir_type) places

-- the rules on a record of this type and size
abbrev pub head_rows : ℕ → ℕ → ℕ → List Row
head_rows place type size =
    row 2 place (is_record_type type)
    ∷ row 3 place (nat_le (fixed_size type) size)
    ∷ []

-- the unused ones of these records, and a rule on one of them that is broken, or none is
pub record AreSorted (b : List ℕ) (w : Walked) : Type 0 where
  pub unused : w.records.unused.items ≡ unused_of b w.records.all.items
  pub found : Finds (flat_map (record_rows b) w.records.all.items) w.broken

-- the records of an image, or the place where they do not go on
abbrev pub WalksTiles : List ℕ → Result Walked ℕ → Type 0
WalksTiles b (Ok w) = (tiling b ≡ whole w.records.all.items) × AreSorted b w
WalksTiles b (Err place) = (met : List ℕ) × (tiling b ≡ stuck met place)

pub record AreRecords (b : List ℕ) (records : Records) : Type 0 where
  pub walk : tiling b ≡ whole records.all.items
  pub unused : records.unused.items ≡ unused_of b records.all.items
