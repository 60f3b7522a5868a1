-- What a leaf more makes of an image: its block is placed, then a node is taken where one is needed, and then entries are written (CDF Internal Format Description, "Variable Index Record"; own: the order).
use Rattle.std.specs.Prelude.{◌≡◌, ◌⊎◌, ◌≤◌, ◌<◌, ℕ, zero, suc, ◌+◌, List, [], ◌∷◌, ◌==◌, length, bytes_eq, if◌then◌else◌}
use Rattle.cdf_edits.specs.Frame.Changed.{Touch, Changed}
use Rattle.cdf_edits.specs.Index.Grown.{with_leaf, new_room}
use Rattle.cdf_edits.specs.Index.Written.{UnusedEntries, top_chain, last_node}
use Rattle.cdf_edits.specs.Space.Acts.{Act, Took}
use Rattle.cdf_edits.specs.Space.Placing.{Fills, Placed, type_of_body}
use Rattle.cdf_format.specs.Fields.{number}
use Rattle.cdf_format.specs.Index.{Nodes, Leaf, leaf, nodes_of, room_at}
use Rattle.cdf_format.specs.IndexOf.{IsIndex}
use Rattle.cdf_format.specs.Records.{vdr_vxr_head, vdr_vxr_tail, vxr_n_used_entries, vxr_bytes, past, record_type}
use Rattle.cdf_format.specs.RecordTypes.{vxr_type, cvvr_type}
use Rattle.cdf_format.specs.Shape.{VariableShape, Each, shape}
use Rattle.cdf_format.specs.Sound.{NodeFits}
use Rattle.cdf_format.specs.Tiles.{In}

-- what is taken: a block of so many bytes, and a node where it has room for one entry at least
abbrev pub node_acts : ℕ → ℕ → List Act
node_acts zero at = []
node_acts (suc room) at = Took at (vxr_bytes (suc room)) ∷ []

abbrev pub leaf_acts : ℕ → ℕ → ℕ → ℕ → List Act
leaf_acts place need room at = Took place need ∷ node_acts room at

-- a record was taken and became a node
pub record NodePlaced (b now : List ℕ) (room at : ℕ) : Type 0 where
  pub taken : List ℕ
  pub fills : Fills b taken now (shape b) (shape now).records (shape now).unused (vxr_bytes room) at vxr_type
  pub longest : length now ≤ length b + vxr_bytes room

-- likewise where one is needed, else nothing was done
abbrev pub NodeTaken : List ℕ → List ℕ → ℕ → ℕ → Type 0
NodeTaken b now zero at = (now ≡ b) × (at ≡ 0)
NodeTaken b now (suc room) at = NodePlaced b now (suc room) at

-- what follows the type of a node of the index, up to its entries' end, or of the new one
abbrev pub NodeTouch : List ℕ → VariableShape → ℕ → ℕ → Touch → Type 0
NodeTouch b own room at t = (In t.tile (nodes_of own.index) × (t.place + t.width ≤ vxr_bytes (room_at b t.tile))) ⊎ ((0 < room) × (t.tile ≡ at) × (t.place + t.width ≤ vxr_bytes room))

-- VXRhead and VXRtail of the descriptor, or bytes of a node
abbrev pub IndexTouch : List ℕ → VariableShape → ℕ → ℕ → Touch → Type 0
IndexTouch b own room at t =
    ((t.tile ≡ own.vdr) × (vdr_vxr_head.place ≤ t.place) × (t.place + t.width ≤ past vdr_vxr_tail))
    ⊎ ((past record_type ≤ t.place) × NodeTouch b own room at t)

-- a node counts no more used entries than it has room for
abbrev pub Counts : List ℕ → ℕ → Type 0
Counts b vxr = number b vxr vxr_n_used_entries ≤ room_at b vxr

-- VXRtail, where another node is the last of the top chain, or one is put into it
abbrev pub TailGoesOn : List ℕ → List ℕ → ℕ → Nodes → Nodes → Type 0
TailGoesOn b now vdr before after = number now vdr vdr_vxr_tail ≡ (if bytes_eq (top_chain before) (top_chain after) then number b vdr vdr_vxr_tail else last_node after)

-- From an image to one in which the block was placed, with these bytes behind its size, to one in which a node was taken, and to one in which the entries say the index with the leaf.
pub record LeafAdded (b now : List ℕ) (own : VariableShape) (new : Leaf) (body : List ℕ) (at : ℕ) : Type 0 where
  pub filled : List ℕ
  pub block : Placed b filled body new.place
  pub roomy : List ℕ
  pub node : NodeTaken filled roomy (new_room new.first own.index) at
  pub touches : List Touch
  pub changed : Changed roomy now touches
  pub within : Each (IndexTouch roomy own (new_room new.first own.index) at) touches
  pub as_long : length now ≡ length roomy
  pub index : IsIndex now (shape roomy).records (number now own.vdr vdr_vxr_head) (with_leaf new at own.index)
  pub fits : Each (NodeFits now) (nodes_of (with_leaf new at own.index))
  pub counts : Each (Counts b) (nodes_of own.index) → Each (Counts now) (nodes_of (with_leaf new at own.index))
  pub tail : TailGoesOn b now own.vdr own.index (with_leaf new at own.index)
  pub unused : Each (UnusedEntries b now (own.index ∷ []) (nodes_of own.index) (leaf_acts new.place (8 + length body) (new_room new.first own.index) at)) (nodes_of (with_leaf new at own.index))

-- the same, wherever the block and the node stand; the leaf is packed where the block is
pub record AddsLeaf (b now : List ℕ) (own : VariableShape) (first last : ℕ) (body : List ℕ) : Type 0 where
  pub place : ℕ
  pub at : ℕ
  pub added : LeafAdded b now own (leaf first last place (type_of_body body == cvvr_type)) body at
