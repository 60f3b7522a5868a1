-- The way to the entry that names the last block of an index: along a chain to its last node, and then to the chain that the last entry of this node names (own).
use Rattle.std.specs.Prelude.{◌≡◌, ◌≢◌, ℕ, ◌+◌, ◌-◌, ◌==◌, List, if◌then◌else◌}
use Rattle.cdf_format.specs.Chains.{next_of}
use Rattle.cdf_format.specs.Fields.{type_at}
use Rattle.cdf_format.specs.Index.{Nodes, leaves_of, nodes_of, room_at, used_count}
use Rattle.cdf_format.specs.IndexOf.{SaysEntry}
use Rattle.cdf_format.specs.RecordTypes.{cvvr_type}
use Rattle.cdf_format.specs.Tiles.{In}
use Rattle.cdf_index.specs.Ahead.{chain_at}
use Rattle.cdf_index.specs.Finding.{HasIndex, index_at}
use Rattle.cdf_puts.specs.TidyIndex.{IsTidy}
use Rattle.cdf_trim.specs.LastEntry.{last_leaf}
use Rattle.cdf_trim.specs.declared.last_entry.LastEntry.{LastEntry}

-- the link on which the way goes on from a node, 0 where its last entry names a block
abbrev pub link_on : List ℕ → ℕ → ℕ
link_on b at = if next_of b at == 0 then chain_at b at (used_count b at - 1) else next_of b at

-- a node of an index, from which the way leads to the last block of the index
pub record LeadsToLast (b : List ℕ) (index : Nodes) (at : ℕ) : Type 0 where
  pub has : HasIndex b at
  pub some : at ≢ 0
  pub tidy : IsTidy (index_at b at)
  pub last_is : last_leaf (leaves_of (index_at b at)) ≡ last_leaf (leaves_of index)
  pub among : (m : ℕ) → In m (nodes_of (index_at b at)) → In m (nodes_of index)

-- and it ends there
pub record EndsAt (b : List ℕ) (index : Nodes) (at : ℕ) : Type 0 where
  pub leads : LeadsToLast b index at
  pub ends : link_on b at ≡ 0

-- the last used entry of a node was read, as that of a block
pub record ReadsLast (b : List ℕ) (at : ℕ) (e : LastEntry) : Type 0 where
  pub node_is : e.node ≡ at
  pub room_is : e.room ≡ room_at b at
  pub is_last : e.number + 1 ≡ used_count b at
  pub says : SaysEntry b at e.number e.leaf.first e.leaf.last e.leaf.at
  pub packed_is : e.leaf.packed ≡ (type_at b e.leaf.at == cvvr_type)
