-- All blocks and nodes of a variable go, packed or not: what the image has by then (own).
use Rattle.std.specs.Prelude.{◌≡◌, ℕ, List, [], ◌∷◌, length}
use Rattle.cdf_cuts.specs.Planning.{freed_of, opening, plan_of}
use Rattle.cdf_cuts.specs.declared.planning.Span.{Span}
use Rattle.cdf_edits.specs.Frame.Kept.{Stood}
use Rattle.cdf_edits.specs.Commands.Allowances.{FreedStay, Stays, no_fields, space_fields}
use Rattle.cdf_edits.specs.Commands.Cuts.{CutsAll}
use Rattle.cdf_edits.specs.Space.Acts.{Act, gave}
use Rattle.cdf_format.specs.Content.{content}
use Rattle.cdf_format.specs.Fields.{type_at}
use Rattle.cdf_format.specs.Index.{no_node}
use Rattle.cdf_format.specs.Records.{vdr_vxr_head, vdr_vxr_tail}
use Rattle.cdf_format.specs.RecordTypes.{uir_type}
use Rattle.cdf_format.specs.Shape.{VariableShape, shape}
use Rattle.cdf_format.specs.Tiles.{In}
use Rattle.cdf_format.specs.VariableFields.{max_rec_at}
use Rattle.cdf_index.specs.Replacing.{with_index}
use Rattle.cdf_model.specs.DataSet.{extent}
use Rattle.cdf_model.specs.Limits.{record_number_limit}
use Rattle.cdf_model.specs.declared.kinds.Kind.{Kind}
use Rattle.cdf_puts.specs.Going.{GoesOn}

abbrev pub all_span : Span
all_span = opening 0 record_number_limit

-- the records that are freed: the blocks by record number, and then the nodes, lower ones first
abbrev pub all_freed : VariableShape → List ℕ
all_freed own = freed_of (plan_of all_span 0 own.index)

abbrev pub all_acts : List ℕ → VariableShape → List Act
all_acts b own = gave b (all_freed own)

-- the variable without an index
abbrev pub emptied : VariableShape → VariableShape
emptied own = with_index own no_node

-- An image goes on to one in which the variable has no block and no node: what these were is unused in its place. Where the variable had no record, the content stays.
pub record Emptied (b now : List ℕ) (kind : Kind) (before : List VariableShape) (own : VariableShape) (after : List VariableShape) : Type 0 where
  pub goes_on : GoesOn b now kind before own (emptied own) after (all_acts b own)
  pub long : length now ≡ length b
  pub cuts : CutsAll b now own (emptied own) (all_acts b own)
  pub gdr : Stays b now (shape b).gdr space_fields
  pub descriptor : Stays b now own.vdr (vdr_vxr_head ∷ vdr_vxr_tail ∷ [])
  pub cpr : (m : ℕ) → In m own.cpr → Stood b now m
  pub records_are : (shape now).records ≡ (shape b).records
  pub unused : (m : ℕ) → In m (all_freed own) → In m (shape now).records × (type_at now m ≡ uir_type)
  pub freed : FreedStay b now no_fields (all_acts b own)
  pub same_content : extent (max_rec_at b own.vdr) ≡ 0 → content now ≡ content b
