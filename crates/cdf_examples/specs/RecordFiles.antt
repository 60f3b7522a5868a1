-- Files with records of a variable `T` of the type INT4: they are put, deleted, and their index is made anew.
use Rattle.std.specs.Prelude.{ℕ, ℤ, pos, List, [], ◌∷◌, drop, true, false, codes, None}
use Rattle.cdf_model.specs.declared.data_type.DataType.TheVariants.{Int4}
use Rattle.cdf_model.specs.declared.kinds.Sparse.TheVariants.{NoRule}
use Rattle.cdf_model.specs.DataSet.{Variable}
use Rattle.cdf_format.specs.Index.{Nodes, no_entry, block}
use Rattle.cdf_model.specs.declared.space.Space.{Space}
use Rattle.cdf_format.specs.Shape.{VariableShape, Shape}
use Rattle.cdf_examples.specs.Building.{◌⧺◌, VdrFields, new_vdr, z_vdr, covering, vxr, vxr_of, vvr, uir}
use Rattle.cdf_examples.specs.OneVariable.{heads, variable_shape, one_node}

-- ---- the variable: `zvar T INT4 1 vary - -`, `set-blocking T 4`

abbrev pub t_vdr : VdrFields
t_vdr = record (new_vdr 4 (codes "T")) { blocking = 4 }

-- the same with records up to a number, and an index that begins here
abbrev pub t_with : ℕ → ℕ → VdrFields
t_with max_rec head = record t_vdr { max_rec = max_rec; vxr_head = head; vxr_tail = head }

unfoldable pub unblocked_file : List ℕ
unblocked_file = heads 748 0 ⧺ z_vdr (new_vdr 4 (codes "T"))

unfoldable pub variable_file : List ℕ
variable_file = heads 748 0 ⧺ z_vdr t_vdr

abbrev pub t_data : ℤ → List (ℕ × List ℕ) → Variable
t_data max_rec recs = record {
  name = codes "T";
  type = Int4;
  elems = 1;
  dims = [];
  varys = [];
  vary = true;
  sparse = NoRule;
  rle = false;
  blocking = pos 4;
  max_rec = max_rec;
  pad = None;
  recs = recs;
}

-- a number in network order, one with its low byte first, and -2147483647
abbrev pub high_first : ℕ → List ℕ
high_first n = 0 ∷ 0 ∷ 0 ∷ n ∷ []

abbrev pub low_first : ℕ → List ℕ
low_first n = n ∷ 0 ∷ 0 ∷ 0 ∷ []

abbrev pub pad_high_first : List ℕ
pad_high_first = 0x80 ∷ 0x00 ∷ 0x00 ∷ 0x01 ∷ []

abbrev pub pad_low_first : List ℕ
pad_low_first = 0x01 ∷ 0x00 ∷ 0x00 ∷ 0x80 ∷ []

-- ---- `put-rec T 0 7`, `put-rec T 3 9`

abbrev pub records_block : List ℕ
records_block = low_first 7 ⧺ pad_low_first ⧺ pad_low_first ⧺ low_first 9

unfoldable pub records_file : List ℕ
records_file = heads 916 0 ⧺ z_vdr (t_with 3 776) ⧺ vvr records_block ⧺ vxr (covering 0 3 748 ∷ [])

abbrev pub records_index : Nodes
records_index = one_node 776 7 (block 0 3 748 false no_entry)

abbrev pub records_shape : Shape
records_shape = variable_shape (8 ∷ 320 ∷ 404 ∷ 748 ∷ 776 ∷ []) records_index [] []

abbrev pub records_data : Variable
records_data = t_data (pos 3) ((0, high_first 7) ∷ (1, pad_high_first) ∷ (2, pad_high_first) ∷ (3, high_first 9) ∷ [])

abbrev pub records_space : Space
records_space = record { eof = 916; used = 908; listed = 0; listed_bytes = 0; unlisted = 0; unlisted_bytes = 0 }

-- ---- then `put-rec T 1 8`, which the block has room for

unfoldable pub in_place_file : List ℕ
in_place_file = heads 916 0 ⧺ z_vdr (t_with 3 776) ⧺ vvr (low_first 7 ⧺ low_first 8 ⧺ pad_low_first ⧺ low_first 9) ⧺ vxr (covering 0 3 748 ∷ [])

abbrev pub in_place_data : Variable
in_place_data = t_data (pos 3) ((0, high_first 7) ∷ (1, high_first 8) ∷ (2, pad_high_first) ∷ (3, high_first 9) ∷ [])

abbrev pub t_shape : Nodes → VariableShape
t_shape index = record { vdr = 404; index = index; cpr = [] }

-- ---- the records put as 1 to 4, then `del-recs T 1 2`

unfoldable pub full_file : List ℕ
full_file = heads 916 0 ⧺ z_vdr (t_with 3 776) ⧺ vvr (low_first 1 ⧺ low_first 2 ⧺ low_first 3 ⧺ low_first 4) ⧺ vxr (covering 0 3 748 ∷ [])

abbrev pub full_data : Variable
full_data = t_data (pos 3) ((0, high_first 1) ∷ (1, high_first 2) ∷ (2, high_first 3) ∷ (3, high_first 4) ∷ [])

-- what stands behind the two records that are left stays
unfoldable pub deleted_file : List ℕ
deleted_file = heads 916 0 ⧺ z_vdr (t_with 1 776) ⧺ vvr (low_first 1 ⧺ low_first 4 ⧺ low_first 3 ⧺ low_first 4) ⧺ vxr (covering 0 1 748 ∷ [])

abbrev pub deleted_data : Variable
deleted_data = t_data (pos 1) ((0, high_first 1) ∷ (1, high_first 4) ∷ [])

-- ---- `reindex T`: a node of 64 entries, of 1052 bytes, in place of the one of 7

unfoldable pub reindexed_file : List ℕ
reindexed_file =
    heads 1968 776 ⧺ z_vdr (t_with 3 916) ⧺ vvr records_block
    ⧺ uir 0 0 (drop 28 (vxr (covering 0 3 748 ∷ [])))
    ⧺ vxr_of 64 0 (covering 0 3 748 ∷ [])

abbrev pub reindexed_shape : Shape
reindexed_shape = variable_shape (8 ∷ 320 ∷ 404 ∷ 748 ∷ 776 ∷ 916 ∷ []) (one_node 916 64 (block 0 3 748 false no_entry)) [] (776 ∷ [])

abbrev pub reindexed_space : Space
reindexed_space = record { eof = 1968; used = 1820; listed = 1; listed_bytes = 140; unlisted = 0; unlisted_bytes = 0 }

abbrev pub deleted_index : Nodes
deleted_index = one_node 776 7 (block 0 1 748 false no_entry)
