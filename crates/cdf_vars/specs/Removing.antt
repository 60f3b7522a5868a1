-- What the removal of a variable reads and writes.
use Rattle.std.specs.Prelude.{◌≡◌, ℕ, List, ◌∷◌, ◌++◌}
use Rattle.cdf_edits.specs.Commands.Variables.{freed_with_variable}
use Rattle.cdf_format.specs.Fields.{LiesIn}
use Rattle.cdf_format.specs.Records.{vdr_name}
use Rattle.cdf_format.specs.Shape.{VariableShape, shape, variables}
use Rattle.cdf_format.specs.Tiles.{In}

-- of each of these VDRs the fixed part lies in the image, up to Name
abbrev pub VdrsLie : List ℕ → List ℕ → Type 0
VdrsLie b places = (place : ℕ) → In place places → LiesIn b place vdr_name

-- these records go with the variable whose VDR stands at a place, in this order
abbrev pub AreRecordsAt : List ℕ → ℕ → List ℕ → Type 0
AreRecordsAt b vdr records = (before : List VariableShape) (v : VariableShape) (after : List VariableShape) → variables (shape b) ≡ before ++ v ∷ after → v.vdr ≡ vdr → records ≡ freed_with_variable v
