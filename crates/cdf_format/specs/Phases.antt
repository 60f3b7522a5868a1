-- All rules of a well-formed file. Phases 0 to 3 and 10 speak of the file, the others of its image (own).
use Rattle.std.specs.Prelude.{ℕ, List, [], ◌∷◌, ◌++◌, length, drop, bytes_eq, ◌==◌}
use Rattle.std.specs.List.{flat_map}
use Rattle.md5.specs.Md5.{md5}
use Rattle.cdf_format.specs.Rules.{Row, row, asked}
use Rattle.cdf_format.specs.Sealed.{has_checksum, image_of}
use Rattle.cdf_format.specs.Owners.{times, owned_records}
use Rattle.cdf_format.specs.Shape.{Shape, adrs, vdrs, variables, shape}
use Rattle.cdf_format.specs.FileRules.{phase0, phase1, phase2, phase3}
use Rattle.cdf_format.specs.RecordRules.{phase4}
use Rattle.cdf_format.specs.ChainRules.{phase5}
use Rattle.cdf_format.specs.AttributeRules.{phase6}
use Rattle.cdf_format.specs.VariableRules.{phase7}
use Rattle.cdf_format.specs.IndexRules.{phase8}
use Rattle.cdf_format.specs.NotRead.{unread_variables}

-- a record has one owner
abbrev pub owner_rows : List ℕ → ℕ → List Row
owner_rows owned place = row 1 place (times place owned == 1) ∷ []

-- these records, of which these are owned
abbrev pub phase9 : List ℕ → List ℕ → List Row
phase9 records owned = flat_map (owner_rows owned) records

-- the checksum that is in use is that of the image
abbrev pub phase10 : List ℕ → List Row
phase10 f = asked (has_checksum f) (row 1 (length (image_of f)) (bytes_eq (drop (length (image_of f)) f) (md5 (image_of f))) ∷ [])

-- the rules on chains, attributes, variables, indexes and owners, for an image with this shape; and with the last of them some others
abbrev pub phases_with : List Row → List ℕ → Shape → List (List Row)
phases_with others b s =
    phase5 b s.records
    ∷ phase6 b s.records (adrs s)
    ∷ phase7 b s.records (vdrs (variables s))
    ∷ phase8 b s.records (vdrs (variables s))
    ∷ (others ++ phase9 s.records (owned_records b s))
    ∷ []

abbrev pub phases_of : List ℕ → Shape → List (List Row)
phases_of b s = phases_with [] b s

-- the rules of the format on an image
abbrev pub format_phases : List ℕ → List (List Row)
format_phases b = phase4 b ∷ phases_of b (shape b)

-- those, and that all of it is read so far
abbrev pub image_phases : List ℕ → List (List Row)
image_phases b = phase4 b ∷ phases_with (unread_variables b (vdrs (variables (shape b)))) b (shape b)

-- the rules on the file as far as its two first records
abbrev pub first_phases : List ℕ → List (List Row)
first_phases f = phase0 f ∷ phase1 f ∷ phase2 f ∷ phase3 f ∷ []

-- the rules on a file, where these are those on its image
abbrev pub phases_around : List (List Row) → List ℕ → List (List Row)
phases_around inner f = first_phases f ++ inner ++ phase10 f ∷ []

abbrev pub all_phases : List ℕ → List (List Row)
all_phases f = phases_around (image_phases (image_of f)) f
