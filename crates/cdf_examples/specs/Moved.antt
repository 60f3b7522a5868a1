-- Descriptors that need more bytes than their records have, and move: a VDR with a pad value, and the GDR with dimensions.
use Rattle.std.specs.Prelude.{ℕ, pos, negsuc, List, [], ◌∷◌, drop, Bool, true, false, codes, None}
use Rattle.std.specs.declared.option.Option.{Option}
use Rattle.cdf_model.specs.declared.data_type.DataType.TheVariants.{Int4}
use Rattle.cdf_model.specs.declared.head.Majority.TheVariants.{Column}
use Rattle.cdf_model.specs.declared.kinds.Kind.TheVariants as kinds
use Rattle.cdf_model.specs.declared.kinds.Sparse.TheVariants.{NoRule}
use Rattle.cdf_model.specs.DataSet.{DataSet, Variable}
use Rattle.cdf_format.specs.Index.{no_node}
use Rattle.cdf_format.specs.Owners.{Owner, File, OneVariable, Unused}
use Rattle.cdf_model.specs.declared.space.Space.{Space}
use Rattle.cdf_format.specs.Shape.{VariableShape, Shape}
use Rattle.cdf_examples.specs.Building.{◌⧺◌, minus4, magic, CdrFields, new_cdr, cdr, GdrFields, new_gdr, gdr, VdrFields, new_vdr, z_vdr, r_vdr, uir}
use Rattle.cdf_examples.specs.NewFile.{new_data_set}

abbrev pub variable_data : List ℕ → List ℕ → List Bool → Option (List ℕ) → Variable
variable_data name dims varys pad = record {
  name = name;
  type = Int4;
  elems = 1;
  dims = dims;
  varys = varys;
  vary = true;
  sparse = NoRule;
  rle = false;
  blocking = pos 0;
  max_rec = negsuc 0;
  pad = pad;
  recs = [];
}

abbrev pub shape_at : ℕ → VariableShape
shape_at vdr = record { vdr = vdr; index = no_node; cpr = [] }

-- ---- `zvar T INT4 1 vary - -`, `zvar U INT4 1 vary 3 T`, `zvar V INT4 1 vary - -`, `set-pad U 5`

abbrev pub scalar : List ℕ → ℕ → ℕ → VdrFields
scalar name num next = record (new_vdr 4 name) { num = num; next = next }

abbrev pub u_vdr : VdrFields
u_vdr = record (new_vdr 4 (codes "U")) { num = 1; next = 1100; dims = 3 ∷ []; varys = minus4 ∷ [] }

-- three VDRs, of 344, 352 and 344 bytes
unfoldable pub without_pad : List ℕ
without_pad =
    magic ⧺ cdr new_cdr ⧺ gdr (record new_gdr { z_head = 404; eof = 1444; nz_vars = 3 })
    ⧺ z_vdr (scalar (codes "T") 0 748) ⧺ z_vdr u_vdr ⧺ z_vdr (scalar (codes "V") 2 0)

-- U moves to the end, as 356 bytes
unfoldable pub with_pad : List ℕ
with_pad =
    magic ⧺ cdr new_cdr ⧺ gdr (record new_gdr { z_head = 404; eof = 1800; nz_vars = 3; unused = 748 })
    ⧺ z_vdr (scalar (codes "T") 0 1444) ⧺ uir 0 0 (drop 28 (z_vdr u_vdr)) ⧺ z_vdr (scalar (codes "V") 2 0)
    ⧺ z_vdr (record u_vdr { flags = 3; pad = 5 ∷ 0 ∷ 0 ∷ 0 ∷ [] })

abbrev pub pad_script : List (List ℕ)
pad_script = codes "zvar T INT4 1 vary - -" ∷ codes "zvar U INT4 1 vary 3 T" ∷ codes "zvar V INT4 1 vary - -" ∷ []

abbrev pub data_with_pad : Option (List ℕ) → DataSet
data_with_pad pad = record new_data_set { z_variables = variable_data (codes "T") [] [] None ∷ variable_data (codes "U") (3 ∷ []) (true ∷ []) pad ∷ variable_data (codes "V") [] [] None ∷ [] }

abbrev pub padded_shape : Shape
padded_shape = record {
  records = 8 ∷ 320 ∷ 404 ∷ 748 ∷ 1100 ∷ 1444 ∷ [];
  gdr = 320;
  attributes = [];
  r_variables = [];
  z_variables = shape_at 404 ∷ shape_at 1444 ∷ shape_at 1100 ∷ [];
  unused = 748 ∷ [];
}

abbrev pub padded_space : Space
padded_space = record { eof = 1800; used = 1440; listed = 1; listed_bytes = 352; unlisted = 0; unlisted_bytes = 0 }

-- ---- `setup 1 column 2,3`, `rvar X INT4 1 vary TT`

-- encoding 1, column majority
abbrev pub column_cdr : CdrFields
column_cdr = record new_cdr { gdr_offset = 404; encoding = 1; flags = 2 }

abbrev pub column_gdr : GdrFields
column_gdr = record new_gdr { eof = 496; unused = 320; dims = 2 ∷ 3 ∷ [] }

-- the GDR moves behind its old record, as 92 bytes
unfoldable pub set_up_file : List ℕ
set_up_file = magic ⧺ cdr column_cdr ⧺ uir 0 0 (drop 28 (gdr new_gdr)) ⧺ gdr column_gdr

unfoldable pub r_variable_file : List ℕ
r_variable_file =
    magic ⧺ cdr column_cdr ⧺ uir 0 0 (drop 28 (gdr new_gdr)) ⧺ gdr (record column_gdr { r_head = 496; eof = 844; nr_vars = 1 })
    ⧺ r_vdr (record (new_vdr 4 (codes "X")) { varys = minus4 ∷ minus4 ∷ [] })

abbrev pub set_up_data : List Variable → DataSet
set_up_data variables = record new_data_set { encoding = 1; majority = Column; rdims = 2 ∷ 3 ∷ []; r_variables = variables }

abbrev pub x_data : Variable
x_data = variable_data (codes "X") (2 ∷ 3 ∷ []) (true ∷ true ∷ []) None

abbrev pub r_variable_shape : Shape
r_variable_shape = record {
  records = 8 ∷ 320 ∷ 404 ∷ 496 ∷ [];
  gdr = 404;
  attributes = [];
  r_variables = shape_at 496 ∷ [];
  z_variables = [];
  unused = 320 ∷ [];
}

abbrev pub r_variable_owned : List (ℕ × Owner)
r_variable_owned = (8, File) ∷ (404, File) ∷ (496, OneVariable kinds.R 0) ∷ (320, Unused) ∷ []

abbrev pub r_variable_space : Space
r_variable_space = record { eof = 844; used = 752; listed = 1; listed_bytes = 84; unlisted = 0; unlisted_bytes = 0 }
