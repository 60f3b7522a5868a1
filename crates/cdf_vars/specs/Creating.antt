-- A new variable: its descriptor (CDF Internal Format Description, "Variable Descriptor Records").
use Rattle.byteorder.specs.Endian.{big_bytes}
use Rattle.cdf_edits.specs.Commands.Allowances.{vdr_type}
use Rattle.cdf_edits.specs.Space.Placing.{laid_out}
use Rattle.cdf_format.specs.Content.{content}
use Rattle.cdf_format.specs.Records.{Field, record_type, vdr_vdr_next, vdr_data_type, vdr_max_rec, vdr_vxr_head, vdr_vxr_tail, vdr_flags, vdr_s_records, vdr_rfu_b, vdr_rfu_c, vdr_rfu_f, vdr_num_elems, vdr_num, vdr_cpr_or_spr_offset, vdr_blocking_factor, vdr_name}
use Rattle.cdf_model.specs.declared.command.Command.{Command}
use Rattle.cdf_model.specs.declared.command.Command.TheVariants.{RVar, ZVar}
use Rattle.cdf_model.specs.declared.data_type.DataType.{DataType}
use Rattle.cdf_model.specs.declared.kinds.Kind.{Kind}
use Rattle.cdf_model.specs.declared.kinds.Kind.TheVariants.{R, Z}
use Rattle.cdf_model.specs.Types.{code_of}
use Rattle.cdf_shape.specs.declared.shape.Shape.{Shape}
use Rattle.cdf_vars.specs.Known.{KnownKind, KnowsKind}
use Rattle.std.specs.List.{flat_map}
use Rattle.std.specs.Prelude.{◌≡◌, ℕ, ◌-◌, List, [], ◌∷◌, ◌++◌, length, map, replicate, Bool, ⊤, if◌then◌else◌}

-- what a variable is to be
pub record NewVariable : Type 0 where
  pub name : List ℕ
  pub type : DataType
  pub elems : ℕ
  pub vary : Bool
  pub dims : List ℕ
  pub varys : List Bool

abbrev pub wanted : List ℕ → Shape → Bool → NewVariable
wanted name shape vary = record { name = name; type = shape.t; elems = shape.elems; vary = vary; dims = shape.dims; varys = shape.varys }

-- the command that makes it; the dimensions of an r variable are those of the file
abbrev pub making : Kind → NewVariable → Command
making R v = RVar v.name v.type v.elems v.vary v.varys
making Z v = ZVar v.name v.type v.elems v.vary v.dims v.varys

abbrev pub HasDims : List ℕ → Kind → List ℕ → Type 0
HasDims b R dims = dims ≡ (content b).rdims
HasDims b Z dims = ⊤

-- of the variables of the other kind the same is known
abbrev pub OthersStay : List ℕ → List ℕ → Kind → Type 0
OthersStay b now R = (known : KnownKind) → KnowsKind b Z known → KnowsKind now Z known
OthersStay b now Z = (known : KnownKind) → KnowsKind b R known → KnowsKind now R known

-- DimVarys: -1 where a dimension varies
abbrev pub vary_code : Bool → ℕ
vary_code vary = if vary then 0xffffffff else 0

-- what the fields say from DataType to BlockingFactor: no records, records vary or not, no pad value, and no compression
abbrev pub vdr_fields : NewVariable → ℕ → List (Field × ℕ)
vdr_fields v num =
    (vdr_data_type, code_of v.type)
    ∷ (vdr_max_rec, 0xffffffff)
    ∷ (vdr_vxr_head, 0)
    ∷ (vdr_vxr_tail, 0)
    ∷ (vdr_flags, if v.vary then 1 else 0)
    ∷ (vdr_s_records, 0)
    ∷ (vdr_rfu_b, 0)
    ∷ (vdr_rfu_c, 0xffffffff)
    ∷ (vdr_rfu_f, 0xffffffff)
    ∷ (vdr_num_elems, v.elems)
    ∷ (vdr_num, num)
    ∷ (vdr_cpr_or_spr_offset, 0xffffffffffffffff)
    ∷ (vdr_blocking_factor, 0)
    ∷ []

-- zNumDims and zDimSizes, which a z variable has
abbrev pub own_dims : Kind → List ℕ → List ℕ
own_dims R dims = []
own_dims Z dims = length dims ∷ dims

-- what follows the size of a new VDR, which is the last one of its kind; the Name is filled with bytes 0
unfoldable pub vdr_body : Kind → NewVariable → ℕ → List ℕ
vdr_body kind v num =
    laid_out ((record_type, vdr_type kind) ∷ (vdr_vdr_next, 0) ∷ vdr_fields v num)
    ++ (v.name ++ replicate (vdr_name.width - length v.name) 0)
    ++ flat_map (big_bytes 4) (own_dims kind v.dims ++ map vary_code v.varys)
