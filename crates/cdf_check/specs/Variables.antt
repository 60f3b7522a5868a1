-- The variables of an image with these records, and their rules, part by part.
use Rattle.std.specs.Prelude.{◌≡◌, ◌≤◌, ◌⊎◌, ℕ, ◌+◌, List, [], ◌∷◌, Bool, true, false, not, is_some, ◌||◌, nat_le, length, map, Some, None}
use Rattle.std.specs.declared.option.Option.{Option}
use Rattle.cdf_model.specs.Place.{record_limit}
use Rattle.cdf_format.specs.Fields.{LiesIn, Holds, gdr_offset, name_in, number, r_num_dims, r_sizes, size_at, type_at}
use Rattle.cdf_format.specs.Records.{gdr_r_dim_sizes, vdr_data_type, vdr_flags, vdr_max_rec, vdr_name, vdr_num_elems, vdr_r_dim_vary, vdr_s_records, vdr_vxr_head}
use Rattle.cdf_format.specs.RecordTypes.{r_vdr_type, z_vdr_type, fixed_size}
use Rattle.cdf_format.specs.Rules.{Row, row, asked}
use Rattle.cdf_format.specs.Shape.{is_compressed}
use Rattle.cdf_format.specs.Stored.{known_type}
use Rattle.cdf_format.specs.Tiles.{In}
use Rattle.cdf_format.specs.VariableFields.{is_z, dimensions_at, dims_at, vary_field, type_of_variable, elems_at, record_bytes}
use Rattle.cdf_format.specs.VariableRules.{has_elements, has_dimensions, vdr_end, is_max_rec, is_no_link, cpr_link, is_cpr, cpr_rows}
use Rattle.cdf_structure.specs.Indexes.{cpr_at}
use Rattle.cdf_check.specs.declared.variable.Variable.{Variable}
use Rattle.cdf_check.specs.declared.variables.Described.{Described}
use Rattle.cdf_check.specs.declared.variable_fields.Fields.{Fields}
use Rattle.cdf_check.specs.declared.variable_shape.Dimensions.{Dimensions}
use Rattle.cdf_check.specs.declared.variable_shape.Value.{Value}

-- a record of a variable, with its fixed part
pub record IsVariable (b : List ℕ) (vdr : ℕ) : Type 0 where
  pub type_is : (type_at b vdr ≡ r_vdr_type) ⊎ (type_at b vdr ≡ z_vdr_type)
  pub long : fixed_size r_vdr_type ≤ size_at b vdr
  pub long_z : type_at b vdr ≡ z_vdr_type → fixed_size z_vdr_type ≤ size_at b vdr
  pub fits : vdr + size_at b vdr ≤ length b

abbrev pub AreVariables : List ℕ → List ℕ → Type 0
AreVariables b vdrs = (vdr : ℕ) → In vdr vdrs → IsVariable b vdr

-- the fields of a variable, as they were read
pub record AreFields (b : List ℕ) (vdr : ℕ) (fields : Fields) : Type 0 where
  pub size_is : fields.record_size ≡ size_at b vdr
  pub type_is : fields.record_type ≡ type_at b vdr
  pub data_type_is : fields.data_type ≡ known_type b vdr vdr_data_type
  pub max_rec_is : fields.max_rec ≡ number b vdr vdr_max_rec
  pub head_is : fields.vxr_head ≡ number b vdr vdr_vxr_head
  pub flags_are : fields.flags ≡ number b vdr vdr_flags
  pub s_records_are : fields.s_records ≡ number b vdr vdr_s_records
  pub num_elems_are : fields.num_elems ≡ number b vdr vdr_num_elems
  pub link_is : fields.cpr_or_spr_offset ≡ cpr_link b vdr

-- the GDR has room for the sizes of the dimensions that the r variables share
abbrev pub HasRoomForSizes : List ℕ → Type 0
HasRoomForSizes b = Holds b (gdr_offset b) (gdr_r_dim_sizes (r_num_dims b (gdr_offset b)))

-- these sizes lie in the image
abbrev pub HasSizes : List ℕ → Type 0
HasSizes b = LiesIn b (gdr_offset b) (gdr_r_dim_sizes (r_num_dims b (gdr_offset b)))

-- 7.3, 7.4: the values
abbrev pub value_rows : List ℕ → ℕ → List Row
value_rows b vdr = row 3 vdr (is_some (known_type b vdr vdr_data_type)) ∷ row 4 vdr (has_elements b vdr) ∷ []

-- 7.5 to 7.7: the dimensions, and what the fields and a record take
abbrev pub are_dimensions : List ℕ → ℕ → Bool
are_dimensions b vdr = not (is_z b vdr) || has_dimensions b vdr

abbrev pub shape_rows : List ℕ → ℕ → List Row
shape_rows b vdr = row 5 vdr (are_dimensions b vdr) ∷ row 6 vdr (nat_le (vdr_end b vdr) (size_at b vdr)) ∷ row 7 vdr (nat_le (record_bytes b vdr) record_limit) ∷ []

-- 7.8, 7.9: the numbers of records
abbrev pub records_rows : List ℕ → ℕ → List Row
records_rows b vdr = row 8 vdr (is_max_rec (number b vdr vdr_max_rec)) ∷ row 9 vdr (nat_le (number b vdr vdr_s_records) 2) ∷ []

-- 7.10 to 7.12
abbrev pub packing_rows : List ℕ → List ℕ → ℕ → List Row
packing_rows b records vdr =
    row 10 vdr (is_compressed b vdr || is_no_link (cpr_link b vdr))
    ∷ row 11 vdr (not (is_compressed b vdr) || is_cpr b records (cpr_link b vdr))
    ∷ asked (is_compressed b vdr) (cpr_rows b records (cpr_link b vdr))

-- the values of a variable, as they were read
pub record AreValues (b : List ℕ) (vdr : ℕ) (value : Value) : Type 0 where
  pub type_is : value.data_type ≡ type_of_variable b vdr
  pub elements_are : value.elements ≡ elems_at b vdr

-- a variable as it was read: its Name, its CPR, the bytes of a record, and where its index begins
pub record IsVariableOf (b : List ℕ) (vdr : ℕ) (variable : Variable) : Type 0 where
  pub name_is : variable.name ≡ name_in b vdr vdr_name
  pub cpr_is : variable.cpr ≡ cpr_at b vdr
  pub bytes_are : variable.record_bytes ≡ record_bytes b vdr
  pub head_is : variable.vxr_head ≡ number b vdr vdr_vxr_head

-- what these variables have
pub record AreDescribed (b : List ℕ) (vdrs : List ℕ) (described : Described) : Type 0 where
  pub cprs_are : described.cprs.items ≡ map (cpr_at b) vdrs
  pub sizes_are : described.record_sizes.items ≡ map (record_bytes b) vdrs
  pub heads_are : described.vxr_heads.items ≡ map (λ vdr. number b vdr vdr_vxr_head) vdrs

-- its dimensions
pub record AreDimensions (b : List ℕ) (vdr : ℕ) (d : Dimensions) : Type 0 where
  pub count_is : d.count ≡ dimensions_at b vdr
  pub sizes_are : d.sizes ≡ dims_at b vdr
  pub varys_at : d.varys ≡ (vary_field b vdr).place

-- the dimensions that the r variables share
pub record AreShared (b : List ℕ) (d : Dimensions) : Type 0 where
  pub count_is : d.count ≡ r_num_dims b (gdr_offset b)
  pub sizes_are : d.sizes ≡ r_sizes b (gdr_offset b)
  pub varys_at : d.varys ≡ (vdr_r_dim_vary 0).place

-- the dimensions, where rule 7.5 holds
abbrev pub Measures : List ℕ → ℕ → Option Dimensions → Type 0
Measures b vdr None = are_dimensions b vdr ≡ false
Measures b vdr (Some d) = (are_dimensions b vdr ≡ true) × AreDimensions b vdr d
