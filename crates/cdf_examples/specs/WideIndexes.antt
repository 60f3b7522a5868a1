-- Files with 65 records of a variable `W` of the type UINT1, each in a block of its own, so that `reindex W` makes an index of two levels; and wrong ones beside the right one, with the same leaves. Record n is the number n.
use Rattle.std.specs.Prelude.{ℕ, ◌+◌, ◌*◌, List, [], ◌∷◌, map, drop, false, codes}
use Rattle.std.specs.List.{flat_map, range_with_len}
use Rattle.cdf_model.specs.declared.command.Command.{Command}
use Rattle.cdf_model.specs.declared.command.Command.TheVariants as commands
use Rattle.cdf_format.specs.Index.{Nodes, Entries, no_entry, block, lower}
use Rattle.cdf_format.specs.Shape.{VariableShape}
use Rattle.cdf_examples.specs.Building.{◌⧺◌, VdrFields, new_vdr, z_vdr, VxrEntry, covering, vxr_of, vvr, uir}
use Rattle.cdf_examples.specs.OneVariable.{heads, one_node}

abbrev pub reindex_w : Command
reindex_w = commands.Reindex (codes "W")

abbrev pub w_vdr : ℕ → VdrFields
w_vdr head = record (new_vdr 11 (codes "W")) { max_rec = 64; vxr_head = head; vxr_tail = head; blocking = 1 }

-- each block has 13 bytes, and the last one of these is its record
abbrev pub w_block_at : ℕ → ℕ
w_block_at n = 748 + 13 * n

abbrev pub w_blocks : List ℕ
w_blocks = flat_map (λ n. vvr (n ∷ [])) (range_with_len 0 65)

-- the entries of so many blocks from a first one on, as bytes and as an index has them
abbrev pub w_entries : ℕ → ℕ → List VxrEntry
w_entries first count = map (λ n. covering n n (w_block_at n)) (range_with_len first count)

abbrev pub naming : List ℕ → Entries
naming [] = no_entry
naming (n ∷ more) = block n n (w_block_at n) false (naming more)

abbrev pub w_node : ℕ → ℕ → ℕ → ℕ → Nodes
w_node place room first count = one_node place room (naming (range_with_len first count))

abbrev pub w_shape : Nodes → VariableShape
w_shape index = record { vdr = 404; index = index; cpr = [] }

-- ---- a foreign file, of which one node has all 65 entries

unfoldable pub wide_node_file : List ℕ
wide_node_file = heads 2661 0 ⧺ z_vdr (w_vdr 1593) ⧺ w_blocks ⧺ vxr_of 65 0 (w_entries 0 65)

abbrev pub wide_node_index : Nodes
wide_node_index = w_node 1593 65 0 65

-- ---- the same after `reindex W`: three nodes behind the old one, which is unused

abbrev pub reindexed_w : ℕ → List ℕ → List ℕ
reindexed_w head nodes = heads 5817 1593 ⧺ z_vdr (w_vdr head) ⧺ w_blocks ⧺ uir 0 0 (drop 28 (vxr_of 65 0 (w_entries 0 65))) ⧺ nodes

-- the first node has 64 entries, the second has 1, and the root stands last
unfoldable pub two_levels_made_file : List ℕ
two_levels_made_file = reindexed_w 4765 (vxr_of 64 0 (w_entries 0 64) ⧺ vxr_of 64 0 (w_entries 64 1) ⧺ vxr_of 64 0 (covering 0 63 2661 ∷ covering 64 64 3713 ∷ []))

abbrev pub two_levels_made_index : Nodes
two_levels_made_index = one_node 4765 64 (lower 0 63 (w_node 2661 64 0 64) (lower 64 64 (w_node 3713 64 64 1) no_entry))

-- the first node has 1 entry, and the second has 64
unfoldable pub from_the_right_file : List ℕ
from_the_right_file = reindexed_w 4765 (vxr_of 64 0 (w_entries 0 1) ⧺ vxr_of 64 0 (w_entries 1 64) ⧺ vxr_of 64 0 (covering 0 0 2661 ∷ covering 1 64 3713 ∷ []))

abbrev pub from_the_right_index : Nodes
from_the_right_index = one_node 4765 64 (lower 0 0 (w_node 2661 64 0 1) (lower 1 64 (w_node 3713 64 1 64) no_entry))

-- the root stands first
unfoldable pub root_first_file : List ℕ
root_first_file = reindexed_w 2661 (vxr_of 64 0 (covering 0 63 3713 ∷ covering 64 64 4765 ∷ []) ⧺ vxr_of 64 0 (w_entries 0 64) ⧺ vxr_of 64 0 (w_entries 64 1))

abbrev pub root_first_index : Nodes
root_first_index = one_node 2661 64 (lower 0 63 (w_node 3713 64 0 64) (lower 64 64 (w_node 4765 64 64 1) no_entry))
