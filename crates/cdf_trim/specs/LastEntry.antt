-- The entry of an index that names its last block (own).
use Rattle.std.specs.Prelude.{◌≡◌, ℕ, ◌+◌, List, [], Some, None}
use Rattle.std.specs.List.{last_or}
use Rattle.std.specs.declared.option.Option.{Option}
use Rattle.cdf_format.specs.Index.{Leaf, Nodes, leaves_of, nodes_of, room_at, used_count}
use Rattle.cdf_format.specs.IndexOf.{SaysEntry}
use Rattle.cdf_format.specs.Tiles.{In}
use Rattle.cdf_index.specs.Sight.{seen}
use Rattle.cdf_trim.specs.declared.last_entry.LastEntry.{LastEntry}

abbrev pub last_leaf : List Leaf → Option Leaf
last_leaf leaves = last_or None leaves

-- It is the last used entry of a node of the index, and the block that it names is the last one.
pub record NamesLast (b : List ℕ) (index : Nodes) (e : LastEntry) : Type 0 where
  pub is_node : In e.node (nodes_of index)
  pub room_is : e.room ≡ room_at b e.node
  pub is_last : e.number + 1 ≡ used_count b e.node
  pub says : SaysEntry b e.node e.number e.leaf.first e.leaf.last e.leaf.at
  pub leaf_is : last_leaf (leaves_of index) ≡ Some (seen e.leaf)

-- it was found, or there is no block
abbrev pub SeesLast : List ℕ → Nodes → Option LastEntry → Type 0
SeesLast b index None = leaves_of index ≡ []
SeesLast b index (Some e) = NamesLast b index e
