-- The nodes that a cut leaves are written as planned, and VXRhead leads to the first of them (own).
use Rattle.std.specs.Prelude.{◌≡◌, ◌≤◌, ◌<◌, ℕ, ◌+◌, List, [], ◌∷◌, ◌++◌, length, true, if◌then◌else◌}
use Rattle.cdf_edits.specs.Edits.Edit.{Edit}
use Rattle.cdf_edits.specs.Index.Grown.{cut_nodes}
use Rattle.cdf_format.specs.Fields.{number}
use Rattle.cdf_format.specs.Index.{Nodes, link_to, nodes_of, room_at, used_count}
use Rattle.cdf_format.specs.Records.{field, vdr_vxr_head, vdr_vxr_tail}
use Rattle.cdf_format.specs.Shape.{Each, VariableShape, shape}
use Rattle.cdf_format.specs.Sound.{NodeFits}
use Rattle.cdf_index.proofs.NewIndex.{index_marks}
use Rattle.cdf_index.specs.Adding.{Counts}
use Rattle.cdf_index.specs.Writing.{SaysUnused, StillSays}
use Rattle.cdf_edits.specs.Frame.Changed.{Changed, Touch, touch}
use Rattle.std.specs.List.{flat_map}
use Rattle.cdf_model.specs.declared.kinds.Kind.{Kind}
use Rattle.cdf_cuts.specs.Done.{Done}
use Rattle.cdf_cuts.specs.Planning.{Doing, kept_by, plan_of, relinked, rewritten, stands_in, whole_in}
use Rattle.cdf_cuts.specs.Writing.{link_touches, rewrite_touches}
use Rattle.cdf_cuts.specs.declared.planning.Span.{Span}

-- what a cut leaves of an index
abbrev pub left_of : Span → Nodes → Nodes
left_of span nodes = cut_nodes span.close (kept_by span) nodes

-- which bytes are written: of nodes that stay, their links, and VXRhead and VXRtail
abbrev pub links_touch : ℕ → Touch
links_touch vdr = touch vdr vdr_vxr_head.place (vdr_vxr_head.width + vdr_vxr_tail.width)

abbrev pub cut_touches : ℕ → List Doing → List Touch
cut_touches vdr steps = (rewrite_touches (flat_map rewritten steps) ++ link_touches (flat_map relinked steps)) ++ links_touch vdr ∷ []

-- Of a node that stays, entries that are used no more are -1, and those that were not used stay.
pub record EntriesLeft (b linked : List ℕ) (vxr : ℕ) : Type 0 where
  pub room_stays : room_at linked vxr ≡ room_at b vxr
  pub gone : (j : ℕ) → used_count linked vxr ≤ j → j < used_count b vxr → j < room_at b vxr → SaysUnused linked vxr j
  pub unused : (j : ℕ) → used_count b vxr ≤ j → j < room_at b vxr → StillSays b linked vxr j j

-- nodes were written from byte 12 on, and VXRhead and VXRtail
pub record IsLinked (b linked : List ℕ) (kind : Kind) (own : VariableShape) (span : Span) : Type 0 where
  pub edit : Edit b linked (shape b).records (shape b).records (index_marks kind own.vdr (nodes_of own.index) (field 12 (length b))) []
  pub long : length linked ≡ length b
  pub done : Each (Done linked) (plan_of span 0 own.index)
  pub fits : Each (NodeFits linked) (nodes_of (left_of span own.index))
  pub counts : Each (Counts linked) (nodes_of (left_of span own.index))
  pub head : number linked own.vdr vdr_vxr_head ≡ link_to (left_of span own.index)
  pub tail : number linked own.vdr vdr_vxr_tail ≡ (if whole_in span true own.index then number b own.vdr vdr_vxr_tail else stands_in span 0 own.index)
  pub changed : Changed b linked (cut_touches own.vdr (plan_of span 0 own.index))
  pub entries : Each (EntriesLeft b linked) (nodes_of (left_of span own.index))
