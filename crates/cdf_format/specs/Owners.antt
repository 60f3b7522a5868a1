-- Whom the records of an image serve: each serves one owner (CDF Internal Format Description, "Internal Records"; own: that each has an owner).
use Rattle.std.specs.Prelude.{◌≡◌, ℕ, suc, List, [], ◌∷◌, ◌++◌, length, map, not, ◌==◌, if◌then◌else◌, ◌+◌}
use Rattle.std.specs.List.{filter}
use Rattle.cdf_model.specs.declared.kinds.Kind.{Kind}
use Rattle.cdf_model.specs.declared.kinds.Kind.TheVariants.{R, Z}
use Rattle.cdf_model.specs.declared.space.Space.{Space}
use Rattle.cdf_format.specs.Fields.{size_at, type_at}
use Rattle.cdf_format.specs.Records.{cdr_place}
use Rattle.cdf_format.specs.RecordTypes.{uir_type}
use Rattle.cdf_format.specs.Tiles.{In}
use Rattle.cdf_format.specs.Chains.{is_in}
use Rattle.cdf_format.specs.Index.{nodes_of, leaves_of}
use Rattle.cdf_format.specs.Shape.{AttributeShape, VariableShape, Shape}

-- an attribute and a variable by their numbers
pub data Owner : Type 0 where
  File : Owner
  OneAttribute : ℕ → Owner
  OneVariable : Kind → ℕ → Owner
  Unused : Owner

-- the records of an attribute: its ADR and its entries
abbrev pub attribute_records : AttributeShape → List ℕ
attribute_records a = a.adr ∷ a.gr_entries ++ a.z_entries

-- the records of a variable: its VDR, its index, its blocks, and its CPR where it is compressed
abbrev pub variable_records : VariableShape → List ℕ
variable_records v = v.vdr ∷ nodes_of v.index ++ map (λ leaf. leaf.place) (leaves_of v.index) ++ v.cpr

-- each record of type UIR, on the unused list or not
abbrev pub unused_records : List ℕ → Shape → List ℕ
unused_records b s = filter (λ place. type_at b place == uir_type) s.records

abbrev pub owned_by : Owner → List ℕ → List (ℕ × Owner)
owned_by owner places = map (λ place. (place, owner)) places

abbrev pub owned_by_attributes : ℕ → List AttributeShape → List (ℕ × Owner)
owned_by_attributes n [] = []
owned_by_attributes n (a ∷ more) = owned_by (OneAttribute n) (attribute_records a) ++ owned_by_attributes (suc n) more

abbrev pub owned_by_variables : Kind → ℕ → List VariableShape → List (ℕ × Owner)
owned_by_variables kind n [] = []
owned_by_variables kind n (v ∷ more) = owned_by (OneVariable kind n) (variable_records v) ++ owned_by_variables kind (suc n) more

-- each owned record, with its owner
abbrev pub owned : List ℕ → Shape → List (ℕ × Owner)
owned b s =
    owned_by File (cdr_place ∷ s.gdr ∷ [])
    ++ owned_by_attributes 0 s.attributes
    ++ owned_by_variables R 0 s.r_variables
    ++ owned_by_variables Z 0 s.z_variables
    ++ owned_by Unused (unused_records b s)

-- how often it stands in the list
abbrev pub times : ℕ → List ℕ → ℕ
times n [] = 0
times n (m ∷ more) = if n == m then suc (times n more) else times n more

abbrev pub owned_records : List ℕ → Shape → List ℕ
owned_records b s = map (λ pair. pair.0) (owned b s)

-- each record of the image stands exactly once in the list
abbrev pub OwnedOnce : List ℕ → Shape → Type 0
OwnedOnce b s = (place : ℕ) → In place s.records → times place (owned_records b s) ≡ 1

-- the bytes of records
abbrev pub bytes_in : List ℕ → List ℕ → ℕ
bytes_in b [] = 0
bytes_in b (place ∷ more) = size_at b place + bytes_in b more

-- what the records of an image take: those that are used, those of the unused list, and unused records that are on no list
abbrev pub space_of : List ℕ → Shape → Space
space_of b s = record {
  eof = length b;
  used = bytes_in b (filter (λ place. not (type_at b place == uir_type)) s.records);
  listed = length s.unused;
  listed_bytes = bytes_in b s.unused;
  unlisted = length (filter (λ place. not (is_in place s.unused)) (unused_records b s));
  unlisted_bytes = bytes_in b (filter (λ place. not (is_in place s.unused)) (unused_records b s));
}
