-- Images that a put leads to, and wrong ones beside them, which have the same content and keep the rules: of the variable `T` of the type INT4 with blocks of 4 records, and of the packed variable `R`.
use Rattle.std.specs.Prelude.{ℕ, List, [], ◌∷◌, replicate, drop, codes}
use Rattle.cdf_model.specs.declared.command.Command.{Command}
use Rattle.cdf_model.specs.declared.command.Command.TheVariants as commands
use Rattle.cdf_model.specs.declared.kinds.Kind.TheVariants as kinds
use Rattle.cdf_model.specs.DataSet.{Variable}
use Rattle.cdf_model.specs.Names.{Found}
use Rattle.cdf_examples.specs.Building.{◌⧺◌, VdrFields, zeros, sized, z_vdr, covering, vxr, vxr_of, vvr, cvvr, cpr, uir}
use Rattle.cdf_examples.specs.OneVariable.{heads}
use Rattle.cdf_examples.specs.PackedFiles.{r_vdr_with_record}
use Rattle.cdf_examples.specs.RecordFiles.{t_vdr, t_with, low_first, pad_low_first, records_block}

abbrev pub put_t : ℕ → List ℕ → Command
put_t n word = commands.PutRec (codes "T") n (word ∷ [])

abbrev pub put_r : List ℕ → Command
put_r word = commands.PutRec (codes "R") 0 (replicate 40 word)

abbrev pub found_z : Variable → Found
found_z v = record { kind = kinds.Z; number = 0; variable = v }

-- ---- a first record: a block of 28 bytes and a node

abbrev pub block_of : ℕ → List ℕ
block_of n = low_first n ⧺ pad_low_first ⧺ pad_low_first ⧺ pad_low_first

unfoldable pub first_put_file : List ℕ
first_put_file = heads 916 0 ⧺ z_vdr (t_with 0 776) ⧺ vvr (block_of 7) ⧺ vxr (covering 0 3 748 ∷ [])

-- the block has 64 bytes more than it needs
unfoldable pub long_block_file : List ℕ
long_block_file = heads 980 0 ⧺ z_vdr (t_with 0 840) ⧺ vvr (block_of 7 ⧺ zeros 64) ⧺ vxr (covering 0 3 748 ∷ [])

-- the node has 16 bytes more than it needs
unfoldable pub long_node_file : List ℕ
long_node_file = heads 932 0 ⧺ z_vdr (t_with 0 776) ⧺ vvr (block_of 7) ⧺ sized 6 (drop 12 (vxr (covering 0 3 748 ∷ [])) ⧺ zeros 16)

-- ---- the block takes 28 of 100 unused bytes

unfoldable pub spare_file : List ℕ
spare_file = heads 848 748 ⧺ z_vdr t_vdr ⧺ uir 0 0 (zeros 72)

unfoldable pub rest_listed_file : List ℕ
rest_listed_file = heads 988 776 ⧺ z_vdr (t_with 0 848) ⧺ vvr (block_of 7) ⧺ uir 0 0 (zeros 44) ⧺ vxr (covering 0 3 748 ∷ [])

-- the rest is off the list
unfoldable pub rest_unlisted_file : List ℕ
rest_unlisted_file = heads 988 0 ⧺ z_vdr (t_with 0 848) ⧺ vvr (block_of 7) ⧺ uir 0 0 (zeros 44) ⧺ vxr (covering 0 3 748 ∷ [])

-- a byte behind its links is another
unfoldable pub rest_changed_file : List ℕ
rest_changed_file = heads 988 776 ⧺ z_vdr (t_with 0 848) ⧺ vvr (block_of 7) ⧺ uir 0 0 (1 ∷ zeros 43) ⧺ vxr (covering 0 3 748 ∷ [])

-- ---- a packed block becomes a plain one, which stands elsewhere

-- the old one is not on the list
unfoldable pub leaked_file : List ℕ
leaked_file = heads 1004 0 ⧺ z_vdr r_vdr_with_record ⧺ cpr ⧺ uir 0 0 [] ⧺ vxr (covering 0 0 952 ∷ []) ⧺ vvr (replicate 40 1)

-- the new one has 8 bytes more than it needs
unfoldable pub long_plain_file : List ℕ
long_plain_file = heads 1012 784 ⧺ z_vdr r_vdr_with_record ⧺ cpr ⧺ uir 0 0 [] ⧺ vxr (covering 0 0 952 ∷ []) ⧺ vvr (replicate 40 1 ⧺ zeros 8)

-- a packed block moves though its record has room
unfoldable pub packed_moved_file : List ℕ
packed_moved_file = heads 980 784 ⧺ z_vdr r_vdr_with_record ⧺ cpr ⧺ uir 0 0 [] ⧺ vxr (covering 0 0 952 ∷ []) ⧺ cvvr (0x00 ∷ 0x27 ∷ []) 2

-- ---- a record is written anew, and a record past MaxRec is another

unfoldable pub put_again_file : List ℕ
put_again_file = heads 916 0 ⧺ z_vdr (t_with 0 776) ⧺ vvr (block_of 8) ⧺ vxr (covering 0 3 748 ∷ [])

unfoldable pub past_changed_file : List ℕ
past_changed_file = heads 916 0 ⧺ z_vdr (t_with 0 776) ⧺ vvr (low_first 8 ⧺ pad_low_first ⧺ low_first 5 ⧺ pad_low_first) ⧺ vxr (covering 0 3 748 ∷ [])

-- ---- a second block, whose entry the node has room for

abbrev pub t_up_to : ℕ → ℕ → ℕ → VdrFields
t_up_to max_rec head tail = record (t_with max_rec head) { vxr_tail = tail }

unfoldable pub second_block_file : List ℕ
second_block_file = heads 944 0 ⧺ z_vdr (t_with 4 776) ⧺ vvr records_block ⧺ vxr (covering 0 3 748 ∷ covering 4 7 916 ∷ []) ⧺ vvr (block_of 5)

-- there is a new node for it
unfoldable pub needless_node_file : List ℕ
needless_node_file = heads 1084 0 ⧺ z_vdr (t_up_to 4 776 944) ⧺ vvr records_block ⧺ vxr_of 7 944 (covering 0 3 748 ∷ []) ⧺ vvr (block_of 5) ⧺ vxr (covering 4 7 916 ∷ [])

-- ---- the same in an index of two levels

unfoldable pub two_levels_file : List ℕ
two_levels_file = heads 1056 0 ⧺ z_vdr (t_with 3 916) ⧺ vvr records_block ⧺ vxr (covering 0 3 748 ∷ []) ⧺ vxr (covering 0 3 776 ∷ [])

unfoldable pub widened_file : List ℕ
widened_file = heads 1084 0 ⧺ z_vdr (t_with 4 916) ⧺ vvr records_block ⧺ vxr (covering 0 3 748 ∷ covering 4 7 1056 ∷ []) ⧺ vxr (covering 0 7 776 ∷ []) ⧺ vvr (block_of 5)

-- the upper entry is wider than its records
unfoldable pub too_wide_file : List ℕ
too_wide_file = heads 1084 0 ⧺ z_vdr (t_with 4 916) ⧺ vvr records_block ⧺ vxr (covering 0 3 748 ∷ covering 4 7 1056 ∷ []) ⧺ vxr (covering 0 2147483646 776 ∷ []) ⧺ vvr (block_of 5)
