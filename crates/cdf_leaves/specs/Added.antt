-- A leaf that is added: what is asked for, the way to its place, and what is done along it (own).
use Rattle.std.specs.Prelude.{◌≡◌, ◌⊎◌, ◌+◌, ◌<◌, ◌≤◌, ℕ, List, length, map}
use Rattle.cdf_edits.specs.Edits.Standing.{StandsAmong}
use Rattle.cdf_edits.specs.Commands.Room.{widest}
use Rattle.cdf_edits.specs.Index.Grown.{new_entries}
use Rattle.cdf_edits.specs.Space.Placing.{IsBody, type_of_body}
use Rattle.cdf_format.specs.Fields.{eof, gdr_offset, number}
use Rattle.cdf_format.specs.Index.{Nodes, nodes_of, used_count}
use Rattle.cdf_format.specs.RecordTypes.{cvvr_type, vvr_type}
use Rattle.cdf_format.specs.Records.{past, vdr_vxr_head, vdr_vxr_tail, vxr_bytes}
use Rattle.cdf_format.specs.Shape.{Each, VariableShape, shape, variables, vdrs}
use Rattle.cdf_format.specs.Sound.{IsSound}
use Rattle.cdf_format.specs.Tiles.{In}
use Rattle.cdf_format.specs.WellFormed.{Good}
use Rattle.cdf_index.specs.Adding.{AddsLeaf}
use Rattle.cdf_index.specs.Descent.{IsAmong, SeesNode, StepSays, step_pair}
use Rattle.cdf_index.specs.Finding.{index_at}
use Rattle.cdf_index.specs.Way.{spot, way}
use Rattle.cdf_index.specs.declared.descending.Way.{Way}
use Rattle.cdf_index.specs.declared.entries.Entry.{Entry}
use Rattle.cdf_leaves.specs.Putting.{EntryPut}
use Rattle.cdf_leaves.specs.Widening.{WidenedAlong}
use Rattle.cdf_model.specs.Limits.{image_limit}
use Rattle.cdf_model.specs.declared.kinds.Kind.{Kind}

-- the type of a block, packed or not
abbrev pub IsBlockType : ℕ → Type 0
IsBlockType type = (type ≡ vvr_type) ⊎ (type ≡ cvvr_type)

-- a variable of a good image may get a block with these bytes
pub record MayAdd (b : List ℕ) (limit vdr : ℕ) (body : List ℕ) : Type 0 where
  pub good : Good b
  pub sound : IsSound b (shape b)
  pub ends : eof b (gdr_offset b) ≡ length b
  pub lies : vdr + past vdr_vxr_tail ≤ length b
  pub seven : new_entries ≤ widest (index_at b (number b vdr vdr_vxr_head))
  pub vdr_in : In vdr (vdrs (variables (shape b)))
  pub is_body : IsBody body
  pub block : IsBlockType (type_of_body body)
  pub room : length b + (8 + length body) + vxr_bytes (widest (index_at b (number b vdr vdr_vxr_head))) ≤ limit
  pub short : limit ≤ image_limit

-- it got the leaf, whatever its kind
abbrev pub Added : List ℕ → List ℕ → ℕ → ℕ → ℕ → List ℕ → Type 0
Added b now vdr first last body = (kind : Kind) (before : List VariableShape) (own : VariableShape) (after : List VariableShape) → StandsAmong b kind before own after → own.vdr ≡ vdr → AddsLeaf b now own first last body

-- the way down to the place of a new entry in the index that a link leads to
pub record IsWay (b : List ℕ) (head first : ℕ) (found : Way) : Type 0 where
  pub steps_are : map step_pair found.steps.items ≡ way first (index_at b head)
  pub end_is : found.end.place ≡ spot first (index_at b head)
  pub sees : SeesNode b found.end.place first found.end
  pub last : In found.end.place (nodes_of (index_at b head))
  pub among : Each (IsAmong (index_at b head)) found.steps.items
  pub say : Each (StepSays b) found.steps.items

abbrev pub entry : ℕ → ℕ → ℕ → Entry
entry first last place = record { first = first; last = last; place = place }

-- the entry was put at the end of the way, with this new node or 0 for none, and the entries on the way reach as far as it
pub record PutAlong (b now : List ℕ) (way : Way) (new : Entry) (at : ℕ) : Type 0 where
  pub grown : List ℕ
  pub put : EntryPut b grown way.end new at
  pub widened : WidenedAlong grown now new.last (map step_pair way.steps.items)

-- a step leads through a used entry of a node
abbrev pub IsStep : List ℕ → Nodes → ℕ × ℕ → Type 0
IsStep b index step = In step.0 (nodes_of index) × (step.1 < used_count b step.0)
