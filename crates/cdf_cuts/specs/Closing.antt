-- Records that go from the index and the blocks of a variable, of which no block is packed, where later ones close up: what the image has by then (own).
use Rattle.std.specs.Prelude.{◌≡◌, ◌<◌, ◌≤◌, ℕ, ◌+◌, List, [], ◌∷◌, length, bytes_eq, if◌then◌else◌, false}
use Rattle.cdf_edits.specs.Edits.Standing.{IsOneOf}
use Rattle.cdf_edits.specs.Commands.Allowances.{FreedStay, no_fields}
use Rattle.cdf_edits.specs.Commands.GreatestRecord.{r_max_rec}
use Rattle.cdf_edits.specs.Index.Written.{NodesFollow, last_node, top_chain}
use Rattle.cdf_edits.specs.Index.Blocks.{fallen}
use Rattle.cdf_edits.specs.Index.Cut.{CutsIndex}
use Rattle.cdf_edits.specs.Index.Grown.{index_cut_closed, kept_closed}
use Rattle.cdf_edits.specs.Space.Acts.{Act, gave}
use Rattle.cdf_format.specs.Fields.{number, size_at}
use Rattle.cdf_format.specs.Index.{Leaf, leaves_of, nodes_of}
use Rattle.cdf_format.specs.Records.{vdr_max_rec, vdr_vxr_tail}
use Rattle.cdf_format.specs.Shape.{VariableShape, is_compressed}
use Rattle.cdf_format.specs.Tiles.{In}
use Rattle.cdf_format.specs.VariableFields.{record_bytes}
use Rattle.cdf_index.specs.Replacing.{with_index}
use Rattle.cdf_model.specs.DataSet.{Variable}
use Rattle.cdf_model.specs.Limits.{image_limit}
use Rattle.cdf_model.specs.declared.kinds.Kind.{Kind}
use Rattle.cdf_puts.specs.Going.{GoesOn}
use Rattle.cdf_cuts.specs.Moving.{LeafStays}
use Rattle.cdf_cuts.specs.Planning.{closing, freed_of, plan_of}

-- the records that are freed: the blocks by record number, and then the nodes, lower ones first
abbrev pub freed_closing : VariableShape → ℕ → ℕ → List ℕ
freed_closing own first last = freed_of (plan_of (closing first last) 0 own.index)

abbrev pub closing_acts : List ℕ → VariableShape → ℕ → ℕ → List Act
closing_acts b own first last = gave b (freed_closing own first last)

-- the variable with the index that is left
abbrev pub closed : VariableShape → ℕ → ℕ → VariableShape
closed own first last = with_index own (index_cut_closed first last own.index)

-- An image goes on to one in which the index was cut so; what a command leaves of VXRtail, of the nodes and of what is freed.
pub record IndexClosed (b now : List ℕ) (kind : Kind) (before : List VariableShape) (own : VariableShape) (after : List VariableShape) (first last : ℕ) : Type 0 where
  pub goes : GoesOn b now kind before own (closed own first last) after (closing_acts b own first last)
  pub long : length now ≡ length b
  pub short : length b ≤ image_limit
  pub tail : number now own.vdr vdr_vxr_tail ≡ (if bytes_eq (top_chain own.index) (top_chain (index_cut_closed first last own.index)) then number b own.vdr vdr_vxr_tail else last_node (index_cut_closed first last own.index))
  pub nodes : NodesFollow b now (index_cut_closed first last own.index ∷ []) (nodes_of own.index) (nodes_of (index_cut_closed first last own.index)) (closing_acts b own first last)
  pub sizes : (m : ℕ) → In m (nodes_of (index_cut_closed first last own.index)) → size_at now m ≡ size_at b m
  pub freed : FreedStay b now no_fields (closing_acts b own first last)
  pub cuts : (v : Variable) → CutsIndex v (kept_closed first last) own.index (index_cut_closed first last own.index) (index_cut_closed first last own.index) (closing_acts b own first last)

-- a block of which a record stays keeps its size, and what stays of it closes up
pub record BlockStays (b now : List ℕ) (size first last : ℕ) (l : Leaf) : Type 0 where
  pub size_stays : size_at now l.place ≡ size_at b l.place
  pub stays : LeafStays b now size first last l

-- likewise, with its blocks, and MaxRec and rMaxRec as they were
pub record RecordsClosed (b now : List ℕ) (kind : Kind) (before : List VariableShape) (own : VariableShape) (after : List VariableShape) (first last : ℕ) : Type 0 where
  pub loose : is_compressed b own.vdr ≡ false
  pub index : IndexClosed b now kind before own after first last
  pub blocks : (l : Leaf) → IsOneOf (leaves_of own.index) l → fallen first last l.first < fallen first last (l.last + 1) → BlockStays b now (record_bytes b own.vdr) first last l
  pub max_rec_is : number now own.vdr vdr_max_rec ≡ number b own.vdr vdr_max_rec
  pub r_max_rec_is : r_max_rec now ≡ r_max_rec b
