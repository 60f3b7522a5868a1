-- Images that commands that cut lead to, and wrong ones beside them, which have the same content and keep the rules: of the variable `T` of the type INT4 with blocks of 4 records, of the packed variable `R`, or of one like it that is not compressed.
use Rattle.std.specs.Prelude.{ℕ, ℤ, pos, List, [], ◌∷◌, drop, replicate, true, false, codes}
use Rattle.cdf_model.specs.declared.command.Command.{Command}
use Rattle.cdf_model.specs.declared.command.Command.TheVariants as commands
use Rattle.cdf_model.specs.declared.kinds.Sparse.TheVariants.{Pad}
use Rattle.cdf_model.specs.DataSet.{Variable}
use Rattle.cdf_examples.specs.Building.{◌⧺◌, minus4, minus8, zeros, sized, magic, new_cdr, cdr, new_gdr, gdr, VdrFields, z_vdr, covering, vxr, vxr_of, vvr, cvvr, cpr, uir}
use Rattle.cdf_examples.specs.OneVariable.{heads}
use Rattle.cdf_examples.specs.PackedFiles.{r_vdr, r_data}
use Rattle.cdf_examples.specs.RecordFiles.{t_vdr, t_with, low_first, records_block}
use Rattle.cdf_examples.specs.WrongPuts.{t_up_to}

abbrev pub delete_t : ℕ → ℕ → Command
delete_t first last = commands.DelRecs (codes "T") first last

-- what is behind the links of a node that covers records 0 to 3, once it is unused
abbrev pub rest_of_node : List ℕ
rest_of_node = drop 28 (vxr (covering 0 3 748 ∷ []))

-- ---- all records go: the block and the node are freed, and the node stands first on the list

unfoldable pub all_deleted_file : List ℕ
all_deleted_file = heads 916 776 ⧺ z_vdr t_vdr ⧺ uir 0 776 (drop 16 records_block) ⧺ uir 748 0 rest_of_node

-- the block is not on the list
unfoldable pub block_unlisted_file : List ℕ
block_unlisted_file = heads 916 776 ⧺ z_vdr t_vdr ⧺ uir 0 0 (drop 16 records_block) ⧺ uir 0 0 rest_of_node

-- ---- the last of four records goes

unfoldable pub last_deleted_file : List ℕ
last_deleted_file = heads 916 0 ⧺ z_vdr (t_with 2 776) ⧺ vvr records_block ⧺ vxr (covering 0 2 748 ∷ [])

-- dead bytes stand behind it
unfoldable pub dead_bytes_file : List ℕ
dead_bytes_file = heads 1056 0 ⧺ z_vdr (t_with 2 776) ⧺ vvr records_block ⧺ vxr (covering 0 2 748 ∷ []) ⧺ uir 0 0 (zeros 112)

-- its node has 16 bytes more
unfoldable pub longer_node_file : List ℕ
longer_node_file = heads 932 0 ⧺ z_vdr (t_with 2 776) ⧺ vvr records_block ⧺ sized 6 (drop 12 (vxr (covering 0 2 748 ∷ [])) ⧺ zeros 16)

-- its node says that it has room for 6 entries
unfoldable pub fewer_entries_file : List ℕ
fewer_entries_file = heads 916 0 ⧺ z_vdr (t_with 2 776) ⧺ vvr records_block ⧺ sized 6 (drop 12 (vxr_of 6 0 (covering 0 2 748 ∷ [])) ⧺ zeros 16)

-- its block moves, though it has room
unfoldable pub block_moved_file : List ℕ
block_moved_file = heads 944 748 ⧺ z_vdr (t_with 2 776) ⧺ uir 0 0 (drop 16 records_block) ⧺ vxr (covering 0 2 916 ∷ []) ⧺ vvr (low_first 7 ⧺ drop 4 records_block)

-- ---- the same where 40 bytes are unused

unfoldable pub spare_behind_file : List ℕ
spare_behind_file = heads 956 916 ⧺ z_vdr (t_with 3 776) ⧺ vvr records_block ⧺ vxr (covering 0 3 748 ∷ []) ⧺ uir 0 0 (zeros 12)

unfoldable pub spare_stays_file : List ℕ
spare_stays_file = heads 956 916 ⧺ z_vdr (t_with 2 776) ⧺ vvr records_block ⧺ vxr (covering 0 2 748 ∷ []) ⧺ uir 0 0 (zeros 12)

-- one of them is another
unfoldable pub spare_overwritten_file : List ℕ
spare_overwritten_file = heads 956 916 ⧺ z_vdr (t_with 2 776) ⧺ vvr records_block ⧺ vxr (covering 0 2 748 ∷ []) ⧺ uir 0 0 (7 ∷ zeros 11)

-- ---- the first of two records goes, where the block holds four

unfoldable pub two_stored_file : List ℕ
two_stored_file = heads 916 0 ⧺ z_vdr (t_with 1 776) ⧺ vvr (low_first 1 ⧺ low_first 2 ⧺ low_first 3 ⧺ low_first 4) ⧺ vxr (covering 0 3 748 ∷ [])

unfoldable pub first_cut_file : List ℕ
first_cut_file = heads 916 0 ⧺ z_vdr (t_with 0 776) ⧺ vvr (low_first 2 ⧺ low_first 3 ⧺ low_first 4 ⧺ low_first 4) ⧺ vxr (covering 0 2 748 ∷ [])

-- what was record 2 is another
unfoldable pub past_cut_file : List ℕ
past_cut_file = heads 916 0 ⧺ z_vdr (t_with 0 776) ⧺ vvr (low_first 2 ⧺ low_first 9 ⧺ low_first 4 ⧺ low_first 4) ⧺ vxr (covering 0 2 748 ∷ [])

-- ---- the only records of the second node go, and it is freed after its block

unfoldable pub two_nodes_file : List ℕ
two_nodes_file = heads 1084 0 ⧺ z_vdr (t_up_to 7 776 944) ⧺ vvr records_block ⧺ vxr_of 7 944 (covering 0 3 748 ∷ []) ⧺ vvr records_block ⧺ vxr (covering 4 7 916 ∷ [])

unfoldable pub node_freed_file : List ℕ
node_freed_file = heads 1084 944 ⧺ z_vdr (t_with 3 776) ⧺ vvr records_block ⧺ vxr (covering 0 3 748 ∷ []) ⧺ uir 0 944 (drop 16 records_block) ⧺ uir 916 0 (drop 28 (vxr (covering 4 7 916 ∷ [])))

-- it stays without entries
unfoldable pub bare_node_file : List ℕ
bare_node_file = heads 1084 916 ⧺ z_vdr (t_up_to 3 776 944) ⧺ vvr records_block ⧺ vxr_of 7 944 (covering 0 3 748 ∷ []) ⧺ uir 0 0 (drop 16 records_block) ⧺ vxr []

-- ---- `set-sparse` of a variable whose one block holds no record

unfoldable pub none_stored_file : List ℕ
none_stored_file = heads 916 0 ⧺ z_vdr (t_with minus4 776) ⧺ vvr records_block ⧺ vxr (covering 0 3 748 ∷ [])

abbrev pub set_sparse_t : Command
set_sparse_t = commands.SetSparse (codes "T") Pad

abbrev pub sparse_vdr : VdrFields
sparse_vdr = record t_vdr { s_records = 1 }

unfoldable pub made_sparse_file : List ℕ
made_sparse_file = heads 916 776 ⧺ z_vdr sparse_vdr ⧺ uir 0 776 (drop 16 records_block) ⧺ uir 748 0 rest_of_node

-- block and node are not on the list
unfoldable pub cut_unlisted_file : List ℕ
cut_unlisted_file = heads 916 0 ⧺ z_vdr sparse_vdr ⧺ uir 0 0 (drop 16 records_block) ⧺ uir 0 0 rest_of_node

-- ---- `set-compress` of a variable without blocks, where 28 bytes are unused

unfoldable pub uncompressed_file : List ℕ
uncompressed_file = heads 776 748 ⧺ z_vdr t_vdr ⧺ uir 0 0 []

abbrev pub compress_t : Command
compress_t = commands.SetCompress (codes "T") true

abbrev pub compressed_vdr : ℕ → VdrFields
compressed_vdr place = record t_vdr { flags = 5; cpr = place }

unfoldable pub cpr_placed_file : List ℕ
cpr_placed_file = heads 776 0 ⧺ z_vdr (compressed_vdr 748) ⧺ cpr

-- the CPR stands at the end
unfoldable pub cpr_at_end_file : List ℕ
cpr_at_end_file = heads 804 748 ⧺ z_vdr (compressed_vdr 776) ⧺ uir 0 0 [] ⧺ cpr

-- ---- `del-var` of a variable whose block has 24 bytes, which are too few for the unused list

unfoldable pub small_block_file : List ℕ
small_block_file = heads 912 0 ⧺ z_vdr (t_with 2 772) ⧺ vvr (low_first 1 ⧺ low_first 2 ⧺ low_first 3) ⧺ vxr (covering 0 2 748 ∷ [])

abbrev pub delete_var_t : Command
delete_var_t = commands.DelVar (codes "T")

-- without variables, with the VDR and the node on the unused list, and these bytes between them; behind its links the VDR has what is behind those of this one
abbrev pub without_t : VdrFields → List ℕ → List ℕ
without_t left between = magic ⧺ cdr new_cdr ⧺ gdr (record new_gdr { eof = 912; unused = 404 }) ⧺ uir 772 0 (drop 28 (z_vdr left)) ⧺ between ⧺ uir 0 404 (drop 28 (vxr (covering 0 2 748 ∷ [])))

unfoldable pub var_deleted_file : List ℕ
var_deleted_file = without_t (t_with 2 0) (sized minus4 (low_first 1 ⧺ low_first 2 ⧺ low_first 3))

-- the block is freed in two pieces
unfoldable pub two_pieces_file : List ℕ
two_pieces_file = without_t (t_with 2 0) (sized minus4 [] ⧺ sized minus4 [])

-- VXRhead stays
unfoldable pub head_left_file : List ℕ
head_left_file = without_t (t_up_to 2 772 0) (sized minus4 (low_first 1 ⧺ low_first 2 ⧺ low_first 3))

-- ---- a compressed variable with a packed leaf of one record and one of two; the first two records go

abbrev pub delete_r : ℕ → ℕ → Command
delete_r first last = commands.DelRecs (codes "R") first last

abbrev pub r_up_to : ℕ → VdrFields
r_up_to last = record r_vdr { max_rec = last; vxr_head = 812; vxr_tail = 812 }

unfoldable pub two_packed_file : List ℕ
two_packed_file = heads 980 0 ⧺ z_vdr (r_up_to 2) ⧺ cpr ⧺ cvvr (0x00 ∷ 0x27 ∷ []) 2 ⧺ vxr (covering 0 0 784 ∷ covering 1 2 952 ∷ []) ⧺ cvvr (0x00 ∷ 0x4f ∷ []) 2

-- what is left of the second leaf stays in its record
unfoldable pub packed_stays_file : List ℕ
packed_stays_file = heads 980 784 ⧺ z_vdr (r_up_to 0) ⧺ cpr ⧺ uir 0 0 [] ⧺ vxr (covering 0 0 952 ∷ []) ⧺ cvvr (0x00 ∷ 0x27 ∷ []) 2

-- it stands in that of the first one
unfoldable pub packed_elsewhere_file : List ℕ
packed_elsewhere_file = heads 980 952 ⧺ z_vdr (r_up_to 0) ⧺ cpr ⧺ cvvr (0x00 ∷ 0x27 ∷ []) 2 ⧺ vxr (covering 0 0 784 ∷ []) ⧺ uir 0 0 []

-- ---- a variable with records of 40 bytes that is not compressed; of a block of two records the second goes

abbrev pub delete_u : ℕ → ℕ → Command
delete_u first last = commands.DelRecs (codes "U") first last

abbrev pub u_up_to : ℕ → VdrFields
u_up_to last = record r_vdr { name = codes "U"; flags = 1; cpr = minus8; blocking = 2; max_rec = last; vxr_head = 848; vxr_tail = 848 }

abbrev pub u_data : ℤ → List (ℕ × List ℕ) → Variable
u_data max_rec recs = record (r_data max_rec recs) { name = codes "U"; rle = false; blocking = pos 2 }

unfoldable pub two_of_forty_file : List ℕ
two_of_forty_file = heads 988 0 ⧺ z_vdr (u_up_to 1) ⧺ vvr (replicate 40 1 ⧺ replicate 40 2) ⧺ vxr (covering 0 1 756 ∷ [])

-- the block stays in its record of 92 bytes
unfoldable pub one_of_forty_file : List ℕ
one_of_forty_file = heads 988 0 ⧺ z_vdr (u_up_to 0) ⧺ vvr (replicate 40 1 ⧺ replicate 40 2) ⧺ vxr (covering 0 0 756 ∷ [])

-- this was freed, and 52 bytes of it taken again
unfoldable pub taken_again_file : List ℕ
taken_again_file = heads 988 808 ⧺ z_vdr (u_up_to 0) ⧺ vvr (replicate 40 1) ⧺ uir 0 0 (replicate 12 2) ⧺ vxr (covering 0 0 756 ∷ [])
