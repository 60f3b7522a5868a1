-- What an index built anew leaves of an image: its nodes are taken and written, VXRhead and VXRtail lead to it, and the old nodes are freed (CDF Internal Format Description, "Variable Index Record"; own: the order).
use Rattle.std.specs.Prelude.{◌≡◌, ◌⊎◌, ◌≤◌, ◌<◌, ℕ, ◌+◌, ◌-◌, ◌^◌, List, [], ◌∷◌, length}
use Rattle.cdf_model.specs.Limits.{level_limit, record_number_limit}
use Rattle.cdf_edits.specs.Commands.Reindex.{IsPyramid, levels_up}
use Rattle.cdf_edits.specs.Commands.Room.{node_entries, node_size, nodes_above, reindex_room}
use Rattle.cdf_edits.specs.Edits.Writes.{Write, write, with_writes}
use Rattle.cdf_edits.specs.Index.Written.{last_node}
use Rattle.cdf_edits.specs.Space.Freeing.{AllGiven}
use Rattle.cdf_edits.specs.Space.Placing.{Fills}
use Rattle.cdf_format.specs.Chains.{next_of}
use Rattle.cdf_format.specs.Content.{content}
use Rattle.cdf_format.specs.Fields.{number}
use Rattle.cdf_format.specs.Index.{Nodes, no_node, nodes_of, leaves_of, link_to, room_at, used_count}
use Rattle.cdf_format.specs.IndexOf.{HasNodes, IsIndex, IsNode}
use Rattle.cdf_format.specs.Owners.{times}
use Rattle.cdf_format.specs.Records.{vdr_vxr_head, vdr_vxr_tail, vxr_n_used_entries}
use Rattle.cdf_format.specs.RecordTypes.{vxr_type}
use Rattle.cdf_format.specs.Shape.{VariableShape, Each, shape}
use Rattle.cdf_format.specs.Sound.{NodeFits, IsSound}
use Rattle.cdf_index.specs.Order.{InOrder, NextsAreZero}
use Rattle.cdf_index.specs.Writing.{SaysUnused}

-- a new node, of whose entries it counts no more as used, with none behind it, and with -1 in the entries that are not used
pub record IsBare (b : List ℕ) (vxr : ℕ) : Type 0 where
  pub fits : NodeFits b vxr
  pub room_is : room_at b vxr ≡ node_entries
  pub few : number b vxr vxr_n_used_entries ≤ node_entries
  pub next_is : next_of b vxr ≡ 0
  pub unused : (i : ℕ) → used_count b vxr ≤ i → i < node_entries → SaysUnused b vxr i

-- a record was taken at a place and became a node
pub record NodeTaken (b now : List ℕ) (place : ℕ) : Type 0 where
  pub taken : List ℕ
  pub fills : Fills b taken now (shape b) (shape now).records (shape now).unused node_size place vxr_type

-- one after the other
abbrev pub AllTaken : List ℕ → List ℕ → List ℕ → Type 0
AllTaken b now [] = now ≡ b
AllTaken b now (place ∷ more) = (mid : List ℕ) × (NodeTaken b mid place × AllTaken mid now more)

-- The nodes of an index are taken from the lowest level up, each with its words. It has the leaves of the old one, in as few nodes as can be, and none of these has one behind it.
pub record IsBuilt (b made : List ℕ) (v : VariableShape) (index : Nodes) : Type 0 where
  pub leaves_stay : leaves_of index ≡ leaves_of v.index
  pub filled : IsPyramid index
  pub fewest : length (nodes_of index) ≡ nodes_above level_limit (length (leaves_of v.index))
  pub nexts : NextsAreZero index
  pub order : InOrder 0 record_number_limit v.index → InOrder 0 record_number_limit index
  pub taken : AllTaken b made (levels_up (level_limit - 1) index)
  pub each_taken : (vxr : ℕ) → times vxr (levels_up (level_limit - 1) index) ≡ times vxr (nodes_of index)
  pub as_many : length (levels_up (level_limit - 1) index) ≡ length (nodes_of index)
  pub stands : HasNodes made (shape made).records level_limit index
  pub small : link_to index < 256 ^ vdr_vxr_head.width
  pub bare : Each (IsBare made) (nodes_of index)
  pub longest : length made ≤ length b + reindex_room v.index

-- VXRhead and VXRtail of a descriptor lead to an index of one node, or of none
abbrev pub heads_written : ℕ → Nodes → List Write
heads_written vdr index = write vdr vdr_vxr_head (link_to index) ∷ write vdr vdr_vxr_tail (link_to index) ∷ []

-- the new index is built, VXRhead and VXRtail lead to it, and the old nodes are freed
pub record IsRebuilt (b now : List ℕ) (v : VariableShape) : Type 0 where
  pub index : Nodes
  pub made : List ℕ
  pub built : IsBuilt b made v index
  pub linked : List ℕ
  pub heads : linked ≡ with_writes made (heads_written v.vdr index)
  pub linked_sound : IsSound linked (shape linked)
  pub given : AllGiven linked now (nodes_of v.index)
  pub stands : IsIndex now (shape now).records (number now v.vdr vdr_vxr_head) index
  pub tail : number now v.vdr vdr_vxr_tail ≡ last_node index
  pub bare : Each (IsBare now) (nodes_of index)
  pub sound : IsSound now (shape now)
  pub content_stays : content now ≡ content b
  pub longest : length now ≤ length b + reindex_room v.index

-- an index without nodes stays, and so does every byte
abbrev pub Reindexed : List ℕ → List ℕ → VariableShape → Type 0
Reindexed b now v = ((v.index ≡ no_node) × (now ≡ b)) ⊎ (IsNode v.index × IsRebuilt b now v)
