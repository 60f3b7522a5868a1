-- How one image goes on to another while records of a variable are put: what holds of each step, and so of several (own).
use Rattle.std.specs.Prelude.{◌≡◌, ◌⊎◌, ℕ, List, [], ◌∷◌, ◌++◌, length, slice_set}
use Rattle.std.specs.List.{flat_map}
use Rattle.cdf_edits.specs.Commands.Allowances.{Stays, r_max_rec_field, shapes_of, space_fields, ListedStay}
use Rattle.cdf_edits.specs.Space.Acts.{Act, ActsFollow}
use Rattle.cdf_edits.specs.Frame.Kept.{Stood, FileSame}
use Rattle.cdf_edits.specs.Edits.Standing.{StandsAmong, other_kind}
use Rattle.cdf_format.specs.Content.{content, variable_of}
use Rattle.cdf_format.specs.Fields.{type_at}
use Rattle.cdf_format.specs.Owners.{attribute_records, variable_records}
use Rattle.cdf_format.specs.RecordTypes.{uir_type}
use Rattle.cdf_format.specs.Records.{Field, vdr_max_rec, vdr_vxr_head, vdr_vxr_tail}
use Rattle.cdf_format.specs.Shape.{AttributeShape, VariableShape, shape}
use Rattle.cdf_format.specs.Tiles.{In}
use Rattle.cdf_format.specs.WellFormed.{Good}
use Rattle.cdf_model.specs.Names.{Found, variables_of, with_variables}
use Rattle.cdf_model.specs.declared.kinds.Kind.{Kind}

-- the variable behind these
abbrev pub found_in : List ℕ → Kind → List VariableShape → VariableShape → Found
found_in b kind before own = record { kind = kind; number = length before; variable = variable_of b own }

-- the fields of its descriptor that may change
abbrev pub put_fields : List Field
put_fields = vdr_max_rec ∷ vdr_vxr_head ∷ vdr_vxr_tail ∷ []

-- the CDR, and the records of these attributes and variables
abbrev pub IsOther : List AttributeShape → List VariableShape → List VariableShape → List VariableShape → ℕ → Type 0
IsOther attributes before after others m = (m ≡ 8) ⊎ (In m (flat_map attribute_records attributes) ⊎ (In m (flat_map variable_records before) ⊎ (In m (flat_map variable_records after) ⊎ In m (flat_map variable_records others))))

-- an unused record that no list has stays
abbrev pub LooseStay : List ℕ → List ℕ → Type 0
LooseStay b now = (m : ℕ) → In m (shape b).records → type_at b m ≡ uir_type → (In m (shape b).unused → ⊥) → Stays b now m []

-- From one good image to another, by acts; the nodes and blocks of one variable may be others, and all else stays but MaxRec, rMaxRec and the links to what they are.
pub record GoesOn (b now : List ℕ) (kind : Kind) (before : List VariableShape) (own own' : VariableShape) (after : List VariableShape) (acts : List Act) : Type 0 where
  pub good : Good now
  pub among : StandsAmong now kind before own' after
  pub vdr_is : own'.vdr ≡ own.vdr
  pub gdr_is : (shape now).gdr ≡ (shape b).gdr
  pub attributes_are : (shape now).attributes ≡ (shape b).attributes
  pub others_are : shapes_of (shape now) (other_kind kind) ≡ shapes_of (shape b) (other_kind kind)
  pub file : FileSame b now
  pub content_is : content now ≡ with_variables (content b) kind (slice_set (variables_of (content b) kind) (length before) (variable_of now own'))
  pub follow : ActsFollow b now acts
  pub gdr : Stays b now (shape b).gdr (r_max_rec_field kind ++ space_fields)
  pub descriptor : Stays b now own.vdr put_fields
  pub stay : (m : ℕ) → IsOther (shape b).attributes before after (shapes_of (shape b) (other_kind kind)) m → Stood b now m
  pub listed : ListedStay b now acts
  pub loose : LooseStay b now
