-- Files with a variable whose records are packed as run lengths of zeros: `zvar R UINT1 1 vary 40 T`, `set-compress R rle`, `set-blocking R 1`.
use Rattle.std.specs.Prelude.{ℕ, ℤ, pos, List, [], ◌∷◌, ◌++◌, replicate, true, false, codes, None}
use Rattle.std.specs.List.{repeat}
use Rattle.cdf_model.specs.declared.data_type.DataType.TheVariants.{UInt1}
use Rattle.cdf_model.specs.declared.kinds.Sparse.TheVariants.{NoRule}
use Rattle.cdf_model.specs.DataSet.{Variable}
use Rattle.cdf_format.specs.Index.{no_entry, block}
use Rattle.cdf_model.specs.declared.space.Space.{Space}
use Rattle.cdf_format.specs.Records.{cpr_c_type, cpr_p_count, cpr_parameter, cvvr_c_size, cvvr_packed, vdr_cpr_or_spr_offset, vxr_last}
use Rattle.cdf_format.specs.Shape.{Shape}
use Rattle.cdf_examples.specs.Building.{◌⧺◌, minus4, minus8, VdrFields, new_vdr, z_vdr, covering, vxr, vvr, cvvr, cpr, uir}
use Rattle.cdf_examples.specs.Damage.{Change, Number, Verdict, verdict}
use Rattle.cdf_examples.specs.OneVariable.{heads, variable_shape, one_node}

-- compressed, with its CPR at 756
abbrev pub r_vdr : VdrFields
r_vdr = record (new_vdr 11 (codes "R")) { flags = 5; cpr = 756; blocking = 1; dims = 40 ∷ []; varys = minus4 ∷ [] }

abbrev pub r_vdr_with_record : VdrFields
r_vdr_with_record = record r_vdr { max_rec = 0; vxr_head = 812; vxr_tail = 812 }

unfoldable pub unpacked_file : List ℕ
unpacked_file = heads 784 0 ⧺ z_vdr r_vdr ⧺ cpr

-- ---- 40 times 0: two packed bytes

unfoldable pub packed_file : List ℕ
packed_file = heads 952 0 ⧺ z_vdr r_vdr_with_record ⧺ cpr ⧺ cvvr (0x00 ∷ 0x27 ∷ []) 2 ⧺ vxr (covering 0 0 784 ∷ [])

abbrev pub packed_shape : Shape
packed_shape = variable_shape (8 ∷ 320 ∷ 404 ∷ 756 ∷ 784 ∷ 812 ∷ []) (one_node 812 7 (block 0 0 784 true no_entry)) (756 ∷ []) []

abbrev pub r_data : ℤ → List (ℕ × List ℕ) → Variable
r_data max_rec recs = record {
  name = codes "R";
  type = UInt1;
  elems = 1;
  dims = 40 ∷ [];
  varys = true ∷ [];
  vary = true;
  sparse = NoRule;
  rle = true;
  blocking = pos 1;
  max_rec = max_rec;
  pad = None;
  recs = recs;
}

abbrev pub packed_space : Space
packed_space = record { eof = 952; used = 944; listed = 0; listed_bytes = 0; unlisted = 0; unlisted_bytes = 0 }

abbrev pub put_zeros : List ℕ
put_zeros = codes "put-rec R 0" ++ repeat 40 (codes " 0")

-- ---- 40 times 1, which packing makes no shorter: the block stands unpacked, elsewhere

unfoldable pub plain_file : List ℕ
plain_file = heads 1004 784 ⧺ z_vdr r_vdr_with_record ⧺ cpr ⧺ uir 0 0 [] ⧺ vxr (covering 0 0 952 ∷ []) ⧺ vvr (replicate 40 1)

abbrev pub plain_shape : Shape
plain_shape = variable_shape (8 ∷ 320 ∷ 404 ∷ 756 ∷ 784 ∷ 812 ∷ 952 ∷ []) (one_node 812 7 (block 0 0 952 false no_entry)) (756 ∷ []) (784 ∷ [])

abbrev pub plain_space : Space
plain_space = record { eof = 1004; used = 968; listed = 1; listed_bytes = 28; unlisted = 0; unlisted_bytes = 0 }

abbrev pub put_ones : List ℕ
put_ones = codes "put-rec R 0" ++ repeat 40 (codes " 1")

-- ---- changes of the packed file. Where two rules are broken at one place, either is named.

abbrev pub damaged_packing : List (Change × Verdict)
damaged_packing =
    (Number 404 vdr_cpr_or_spr_offset 784, verdict 7 11 404)
    ∷ (Number 756 cpr_p_count 0, verdict 7 11 404)
    ∷ (Number 756 cpr_c_type 9, verdict 7 12 756)
    ∷ (Number 756 (cpr_parameter 0) 1, verdict 7 12 756)
    ∷ (Number 784 cvvr_c_size 5, verdict 8 6 784)
    ∷ (Number 784 cvvr_c_size minus8, verdict 8 6 784)
    ∷ (Number 784 cvvr_c_size 5, verdict 8 8 784)
    ∷ (Number 812 (vxr_last 7 0) 2147483646, verdict 8 7 784)
    ∷ (Number 812 (vxr_last 7 0) 2147483646, verdict 8 8 784)
    ∷ (Number 784 cvvr_c_size 1, verdict 8 8 784)
    ∷ (Number 784 (cvvr_packed 2) 0x0026, verdict 8 8 784)
    ∷ (Number 784 (cvvr_packed 2) 0x0028, verdict 8 8 784)
    ∷ []

-- the variable is not compressed, and has no CPR
unfoldable pub not_compressed_file : List ℕ
not_compressed_file = heads 952 0 ⧺ z_vdr (record r_vdr_with_record { flags = 1; cpr = minus8 }) ⧺ cpr ⧺ cvvr (0x00 ∷ 0x27 ∷ []) 2 ⧺ vxr (covering 0 0 784 ∷ [])
