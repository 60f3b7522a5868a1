-- The rules of an image on its records, phase 4 (CDF Internal Format Description, "Internal Records": RecordSize, RecordType).
use Rattle.std.specs.Prelude.{ℕ, List, [], ◌∷◌, ◌++◌, false, nat_le}
use Rattle.std.specs.List.{flat_map}
use Rattle.cdf_format.specs.Fields.{size_at, type_at}
use Rattle.cdf_format.specs.RecordTypes.{is_record_type, fixed_size}
use Rattle.cdf_format.specs.Rules.{Row, row}
use Rattle.cdf_format.specs.Tiles.{tiling}
use Rattle.cdf_format.specs.Walks.{Walk, whole, stuck, met_by}

-- records follow each other up to the end of the image
abbrev pub tiling_rows : Walk → List Row
tiling_rows (whole records) = []
tiling_rows (stuck records place) = row 1 place false ∷ []

-- a record has a known type and the size of its fixed part
abbrev pub record_rows : List ℕ → ℕ → List Row
record_rows b place = row 2 place (is_record_type (type_at b place)) ∷ row 3 place (nat_le (fixed_size (type_at b place)) (size_at b place)) ∷ []

abbrev pub phase4 : List ℕ → List Row
phase4 b = tiling_rows (tiling b) ++ flat_map (record_rows b) (met_by (tiling b))
