-- What `attr`, `rename-attr` and `del-attr` do (CDF Internal Format Description, "Attribute Descriptor Record"; own: a Name is filled with bytes 0, and entries are freed before their attribute).
use Rattle.std.specs.Prelude.{◌≡◌, ℕ, List, [], ◌∷◌, ◌++◌, length, true, ◌==◌, if◌then◌else◌, Some}
use Rattle.std.specs.List.{slice_get}
use Rattle.cdf_model.specs.DataSet.{DataSet}
use Rattle.cdf_edits.specs.Commands.Allowances.{FreedStay, no_fields, Allowances, Anything, Only, only_of, stays_all, space_fields}
use Rattle.cdf_edits.specs.Commands.Named.{is_attribute, IsAttribute}
use Rattle.cdf_edits.specs.Commands.NewRecords.{Says, IsFilled}
use Rattle.cdf_edits.specs.Space.Acts.{Act, Took, gave}
use Rattle.cdf_format.specs.Chains.{next_field}
use Rattle.cdf_format.specs.Content.{content}
use Rattle.cdf_format.specs.Fields.{type_at}
use Rattle.cdf_format.specs.Records.{Field, past, gdr_adr_head, gdr_num_attr, adr_num, adr_max_gr_entry, adr_max_z_entry, adr_rfu_a, adr_rfu_e, adr_name, aedr_attr_num}
use Rattle.cdf_format.specs.RecordTypes.{adr_type}
use Rattle.cdf_format.specs.Shape.{AttributeShape, shape}

abbrev pub attributes_gdr_fields : List Field
attributes_gdr_fields = gdr_adr_head ∷ gdr_num_attr ∷ space_fields

-- ---- `attr`: a last ADR

abbrev pub attr_changes : List ℕ → Allowances
attr_changes b = record stays_all { gdr = Only attributes_gdr_fields; attributes = λ n place. only_of b place adr_type (next_field ∷ []) }

abbrev pub new_adr : List (Field × ℕ)
new_adr = (adr_rfu_a, 0) ∷ (adr_max_gr_entry, 0xffffffff) ∷ (adr_max_z_entry, 0xffffffff) ∷ (adr_rfu_e, 0xffffffff) ∷ []

pub record MakesAttribute (b now name : List ℕ) (acts : List Act) : Type 0 where
  pub made : AttributeShape
  pub made_last : slice_get (shape now).attributes (length (shape b).attributes) ≡ Some made
  pub acts_are : acts ≡ Took made.adr (past adr_name) ∷ []
  pub says : Says now made.adr new_adr
  pub named : IsFilled now made.adr adr_name name

-- ---- `rename-attr`

abbrev pub rename_attr_changes : List ℕ → DataSet → List ℕ → Allowances
rename_attr_changes b d from = record stays_all { attributes = λ n place. if is_attribute d from n then only_of b place adr_type (adr_name ∷ []) else Only [] }

pub record RenamesAttribute (b now from to : List ℕ) (acts : List Act) : Type 0 where
  pub acts_are : acts ≡ []
  pub named : (n : ℕ) (a a' : AttributeShape) → IsAttribute b now from n a a' → IsFilled now a'.adr adr_name to

-- ---- `del-attr`: an ADR goes with its entries, and later attributes are renumbered

abbrev pub del_attr_changes : List ℕ → DataSet → List ℕ → Allowances
del_attr_changes b d name = record stays_all {
  gdr = Only attributes_gdr_fields;
  attributes = λ n place. if is_attribute d name n then Anything else (if type_at b place == adr_type then Only (next_field ∷ adr_num ∷ []) else Only (aedr_attr_num ∷ []));
}

pub record DeletesAttribute (b now name : List ℕ) (acts : List Act) : Type 0 where
  pub acts_are : (n : ℕ) (a : AttributeShape) → is_attribute (content b) name n ≡ true → slice_get (shape b).attributes n ≡ Some a → acts ≡ gave b (a.gr_entries ++ a.z_entries ++ a.adr ∷ [])
  pub freed : FreedStay b now no_fields acts
