-- What is left of an image from which the entries for a variable went, before the variable goes itself (own).
use Rattle.std.specs.Prelude.{◌≡◌, ◌⊎◌, ◌≤◌, ◌<◌, ℕ, ◌+◌, List, [], ◌∷◌, length, map, Some}
use Rattle.std.specs.List.{slice_get, flat_map}
use Rattle.cdf_model.specs.Names.{Found}
use Rattle.cdf_model.specs.VariableSteps.{attribute_without}
use Rattle.cdf_model.specs.declared.kinds.Kind.{Kind}
use Rattle.cdf_edits.specs.Commands.Allowances.{Anything, Keeps, Only, shapes_of, space_fields}
use Rattle.cdf_edits.specs.Commands.EntryChains.{chain_of, kind_of_entries}
use Rattle.cdf_edits.specs.Commands.GreatestRecord.{r_max_rec}
use Rattle.cdf_edits.specs.Commands.Variables.{AttributeFollows, entries_allowance, entries_for}
use Rattle.cdf_edits.specs.Space.Acts.{gave, ActsFollow}
use Rattle.cdf_format.specs.Bytes.{Same}
use Rattle.cdf_format.specs.Content.{content}
use Rattle.cdf_format.specs.Fields.{number, size_at, type_at}
use Rattle.cdf_format.specs.Owners.{attribute_records, variable_records}
use Rattle.cdf_format.specs.Records.{cdr_place, aedr_num, uir_next_uir, uir_prev_uir}
use Rattle.cdf_format.specs.RecordTypes.{uir_type}
use Rattle.cdf_format.specs.Shape.{AttributeShape, Each, shape}
use Rattle.cdf_format.specs.Tiles.{In}
use Rattle.cdf_format.specs.WellFormed.{Good}

-- an entry that went: its bytes stay behind the links of an unused record
pub record IsDropped (b now : List ℕ) (aedr : ℕ) : Type 0 where
  pub stands : In aedr (shape b).records
  pub long : aedr_num.place ≤ size_at b aedr
  pub freed : type_at now aedr ≡ uir_type
  pub behind : Same b now (aedr + aedr_num.place) (aedr + size_at b aedr)

-- a record of an attribute: it may go, or it stays in its place, with its type, but for what the command may change
abbrev pub AttributeKeeps : List ℕ → List ℕ → Found → ℕ → ℕ → Type 0
AttributeKeeps b now found k place = (entries_allowance b (content b) found k place ≡ Anything) ⊎ (Keeps b now place (entries_allowance b (content b) found k place) × (type_at now place ≡ type_at b place))

-- an attribute as the command leaves it; its later entries for variables of the kind stay in their chain
pub record AttributeDropped (b now : List ℕ) (found : Found) (k : ℕ) (a a' : AttributeShape) : Type 0 where
  pub follows : AttributeFollows b now found a a'
  pub later : Each (λ aedr. found.number < number b aedr aedr_num → In aedr (chain_of a' (kind_of_entries found.kind))) (chain_of a (kind_of_entries found.kind))
  pub keeps : (place : ℕ) → In place (attribute_records a) → AttributeKeeps b now found k place

-- The image is good, with the attributes as they are without the variable, and all variables; entries of later variables have the numbers of those before them.
pub record DropsEntries (b : List ℕ) (found : Found) (now : List ℕ) : Type 0 where
  pub good : Good now
  pub content_is : content now ≡ record (content b) { attributes = map (attribute_without found.kind found.number) (content b).attributes }
  pub long : length now ≡ length b
  pub records_are : (shape now).records ≡ (shape b).records
  pub gdr_is : (shape now).gdr ≡ (shape b).gdr
  pub variables_are : (kind : Kind) → shapes_of (shape now) kind ≡ shapes_of (shape b) kind
  pub acts : ActsFollow b now (gave b (entries_for b (shape b).attributes found))
  pub dropped : (aedr : ℕ) → In aedr (entries_for b (shape b).attributes found) → IsDropped b now aedr
  pub attributes_kept : length (shape now).attributes ≡ length (shape b).attributes
  pub attributes : (k : ℕ) (a a' : AttributeShape) → slice_get (shape b).attributes k ≡ Some a → slice_get (shape now).attributes k ≡ Some a' → AttributeDropped b now found k a a'
  pub cdr_kept : Keeps b now cdr_place (Only [])
  pub gdr_kept : Keeps b now (shape b).gdr (Only space_fields)
  pub variables_kept : (kind : Kind) (place : ℕ) → In place (flat_map variable_records (shapes_of (shape b) kind)) → Keeps b now place (Only [])
  pub listed_kept : (uir : ℕ) → In uir (shape b).unused → Keeps b now uir (Only (uir_next_uir ∷ uir_prev_uir ∷ []))
  pub loose_kept : (uir : ℕ) → In uir (shape b).records → type_at b uir ≡ uir_type → (In uir (shape b).unused → ⊥) → Keeps b now uir (Only []) × (In uir (shape now).unused → ⊥)
  pub r_max_rec_kept : r_max_rec now ≡ r_max_rec b
