-- Files with sparse records, under both rules.
use Rattle.std.specs.Prelude.{ℕ, ℤ, pos, List, [], ◌∷◌, true, false, codes, None}
use Rattle.std.specs.List.{repeat}
use Rattle.cdf_model.specs.declared.data_type.DataType.{DataType}
use Rattle.cdf_model.specs.declared.data_type.DataType.TheVariants.{Int2, Int4}
use Rattle.cdf_model.specs.declared.kinds.Sparse.{Sparse}
use Rattle.cdf_model.specs.declared.kinds.Sparse.TheVariants.{Pad, Previous}
use Rattle.cdf_model.specs.DataSet.{Variable}
use Rattle.cdf_format.specs.Index.{Nodes, no_entry, block}
use Rattle.cdf_examples.specs.Building.{◌⧺◌, zeros, VdrFields, new_vdr, z_vdr, covering, vxr, vvr}
use Rattle.cdf_examples.specs.OneVariable.{heads, one_node}
use Rattle.cdf_examples.specs.RecordFiles.{low_first, high_first}

abbrev pub sparse_data : List ℕ → DataType → Sparse → ℤ → ℤ → List (ℕ × List ℕ) → Variable
sparse_data name t rule blocking max_rec recs = record {
  name = name;
  type = t;
  elems = 1;
  dims = [];
  varys = [];
  vary = true;
  sparse = rule;
  rle = false;
  blocking = blocking;
  max_rec = max_rec;
  pad = None;
  recs = recs;
}

-- ---- of the type INT2, under the rule `previous`: `put-rec S 2 20`, `put-rec S 5 50`

abbrev pub s_vdr : ℕ → VdrFields
s_vdr max_rec = record (new_vdr 2 (codes "S")) { max_rec = max_rec; vxr_head = 888; vxr_tail = 888; s_records = 2 }

-- a record and 63 pads, the low byte of each first
abbrev pub s_block : ℕ → List ℕ
s_block n = vvr (n ∷ 0 ∷ [] ⧺ repeat 63 (0x01 ∷ 0x80 ∷ []))

unfoldable pub first_sparse_file : List ℕ
first_sparse_file = heads 1028 0 ⧺ z_vdr (s_vdr 2) ⧺ s_block 20 ⧺ vxr (covering 2 65 748 ∷ [])

abbrev pub first_sparse_index : Nodes
first_sparse_index = one_node 888 7 (block 2 65 748 false no_entry)

unfoldable pub sparse_file : List ℕ
sparse_file = heads 1168 0 ⧺ z_vdr (s_vdr 5) ⧺ s_block 20 ⧺ vxr (covering 2 2 748 ∷ covering 5 68 1028 ∷ []) ⧺ s_block 50

abbrev pub sparse_index : Nodes
sparse_index = one_node 888 7 (block 2 2 748 false (block 5 68 1028 false no_entry))

abbrev pub s_data : ℤ → List (ℕ × List ℕ) → Variable
s_data max_rec recs = sparse_data (codes "S") Int2 Previous (pos 0) max_rec recs

abbrev pub first_sparse_data : Variable
first_sparse_data = s_data (pos 2) ((2, 0 ∷ 20 ∷ []) ∷ [])

abbrev pub both_sparse_data : Variable
both_sparse_data = s_data (pos 5) ((2, 0 ∷ 20 ∷ []) ∷ (5, 0 ∷ 50 ∷ []) ∷ [])

-- ---- a foreign file, of the type INT2, under the rule `pad`: one block for the records 0 to 9, of which 0 to 3 are written

abbrev pub f_vdr : ℕ → VdrFields
f_vdr max_rec = record (new_vdr 2 (codes "S")) { max_rec = max_rec; vxr_head = 780; vxr_tail = 780; s_records = 1 }

abbrev pub foreign_block : List ℕ
foreign_block = vvr (1 ∷ 0 ∷ 2 ∷ 0 ∷ 3 ∷ 0 ∷ 4 ∷ 0 ∷ 5 ∷ 0 ∷ 6 ∷ 0 ∷ 7 ∷ 0 ∷ 8 ∷ 0 ∷ 9 ∷ 0 ∷ 10 ∷ 0 ∷ [])

unfoldable pub foreign_file : List ℕ
foreign_file = heads 920 0 ⧺ z_vdr (f_vdr 3) ⧺ foreign_block ⧺ vxr (covering 0 9 748 ∷ [])

abbrev pub foreign_index : Nodes
foreign_index = one_node 780 7 (block 0 9 748 false no_entry)

-- then `put-rec S 8 80`
unfoldable pub foreign_file_after : List ℕ
foreign_file_after = heads 1060 0 ⧺ z_vdr (f_vdr 8) ⧺ foreign_block ⧺ vxr (covering 0 3 748 ∷ covering 8 71 920 ∷ []) ⧺ s_block 80

abbrev pub f_data : ℤ → List (ℕ × List ℕ) → Variable
f_data max_rec recs = sparse_data (codes "S") Int2 Pad (pos 0) max_rec recs

abbrev pub foreign_data : Variable
foreign_data = f_data (pos 3) ((0, 0 ∷ 1 ∷ []) ∷ (1, 0 ∷ 2 ∷ []) ∷ (2, 0 ∷ 3 ∷ []) ∷ (3, 0 ∷ 4 ∷ []) ∷ [])

abbrev pub foreign_data_after : Variable
foreign_data_after = f_data (pos 8) ((0, 0 ∷ 1 ∷ []) ∷ (1, 0 ∷ 2 ∷ []) ∷ (2, 0 ∷ 3 ∷ []) ∷ (3, 0 ∷ 4 ∷ []) ∷ (8, 0 ∷ 80 ∷ []) ∷ [])

-- ---- of the type INT4, under the rule `pad`: the records 0 to 3 put as 1 to 4, then `del-recs T 1 2`

abbrev pub p_vdr : VdrFields
p_vdr = record (new_vdr 4 (codes "T")) { max_rec = 3; vxr_head = 776; vxr_tail = 776; s_records = 1; blocking = 4 }

abbrev pub p_block : List ℕ
p_block = vvr (low_first 1 ⧺ low_first 2 ⧺ low_first 3 ⧺ low_first 4)

unfoldable pub whole_block_file : List ℕ
whole_block_file = heads 916 0 ⧺ z_vdr p_vdr ⧺ p_block ⧺ vxr (covering 0 3 748 ∷ [])

abbrev pub whole_block_index : Nodes
whole_block_index = one_node 776 7 (block 0 3 748 false no_entry)

-- the record behind those that go gets a block of 28 bytes
unfoldable pub cut_block_file : List ℕ
cut_block_file = heads 944 0 ⧺ z_vdr p_vdr ⧺ p_block ⧺ vxr (covering 0 0 748 ∷ covering 3 3 916 ∷ []) ⧺ vvr (low_first 4 ⧺ zeros 12)

abbrev pub p_data : List (ℕ × List ℕ) → Variable
p_data recs = sparse_data (codes "T") Int4 Pad (pos 4) (pos 3) recs

abbrev pub whole_block_data : Variable
whole_block_data = p_data ((0, high_first 1) ∷ (1, high_first 2) ∷ (2, high_first 3) ∷ (3, high_first 4) ∷ [])

abbrev pub cut_block_data : Variable
cut_block_data = p_data ((0, high_first 1) ∷ (3, high_first 4) ∷ [])
