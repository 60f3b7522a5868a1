-- Records went from a packed variable and later ones keep their numbers, before MaxRec is written: what the image has by then, and what room that takes (own).
use Rattle.std.specs.Prelude.{◌≡◌, ◌<◌, ◌≤◌, ◌⊎◌, ℕ, ◌+◌, ◌-◌, ◌*◌, max, List, [], ◌∷◌, ◌++◌, length, map, true, false, Some, None}
use Rattle.std.specs.declared.option.Option.{Option}
use Rattle.std.specs.List.{filter, flat_map, sum}
use Rattle.cdf_edits.specs.Commands.Deleting.{untouched}
use Rattle.cdf_edits.specs.Commands.GreatestRecord.{r_max_rec}
use Rattle.cdf_edits.specs.Commands.PutSteps.{Stage}
use Rattle.cdf_edits.specs.Commands.Room.{widest}
use Rattle.cdf_edits.specs.Edits.Standing.{StandsAmong}
use Rattle.cdf_edits.specs.Index.Blocks.{extent_after, is_sparse}
use Rattle.cdf_edits.specs.Space.Acts.{Act}
use Rattle.cdf_format.specs.Content.{variable_of}
use Rattle.cdf_format.specs.Fields.{number, with_sign}
use Rattle.cdf_format.specs.Index.{Leaf, Nodes, leaves_of}
use Rattle.cdf_format.specs.Records.{linked_size, vdr_max_rec, vvr_bytes, vxr_bytes}
use Rattle.cdf_format.specs.Shape.{VariableShape, is_compressed}
use Rattle.cdf_format.specs.VariableFields.{max_rec_at, record_bytes}
use Rattle.cdf_format.specs.VariableRules.{is_max_rec}
use Rattle.cdf_format.specs.WellFormed.{Good}
use Rattle.cdf_model.specs.DataSet.{extent}
use Rattle.cdf_model.specs.Limits.{image_limit, record_number_limit}
use Rattle.cdf_model.specs.RecordSteps.{last_number}
use Rattle.cdf_model.specs.declared.kinds.Kind.{Kind}
use Rattle.cdf_packed_deletes.specs.Steps.{CutsWhole, KeepSome, SplitLast, count_of, keeps_some, parts_kept, with_both}
use Rattle.cdf_put_steps.specs.Along.{GoAlong}
use Rattle.cdf_puts.specs.Going.{found_in}
use Rattle.cdf_puts.specs.SoFar.{taken_bytes}
use Rattle.cdf_puts.specs.Steps.{MaxRecRaised}

-- the leaves that keep some of their records in their blocks
abbrev pub keeping_open : ℕ → ℕ → List Leaf → List Leaf
keeping_open first last leaves = filter (keeps_some false first last) leaves

-- room for a new block with the plain bytes of the records that each of them keeps, where records have so many bytes
abbrev pub kept_room : ℕ → ℕ → ℕ → Leaf → ℕ
kept_room size first last l = max linked_size (vvr_bytes (count_of (parts_kept false first last l) * size))

abbrev pub keeping_open_room : ℕ → ℕ → ℕ → List Leaf → ℕ
keeping_open_room size first last leaves = sum (map (kept_room size first last) leaves)

-- room for what is split off: a block with the plain bytes of the records behind those that go, and a node with so many entries
abbrev pub split_room : ℕ → ℕ → ℕ → Option Leaf → ℕ
split_room size last wide None = 0
split_room size last wide (Some l) = max linked_size (vvr_bytes ((l.last - last) * size)) + vxr_bytes wide

-- and with the leaves that keep some
abbrev pub opening_room : ℕ → ℕ → ℕ → Nodes → ℕ
opening_room size first last index = keeping_open_room size first last (keeping_open first last (leaves_of index)) + split_room size last (widest index) (with_both first last (leaves_of index))

-- the image of what is split off, where a leaf has records on both sides
abbrev pub split_stage : Option Leaf → Stage → List Stage
split_stage None end = []
split_stage (Some l) end = end ∷ []

-- From one good image to another: each of these leaves is given the records that it keeps, the others go, and what is split off gets its block. MaxRec and rMaxRec stay.
pub record PackedOpened (b now : List ℕ) (kind : Kind) (before : List VariableShape) (own : VariableShape) (after : List VariableShape) (first last : ℕ) : Type 0 where
  pub stages : List Stage
  pub kept : Stage
  pub left : Stage
  pub end : Stage
  pub keep : KeepSome (found_in b kind before own) false first last (keeping_open first last (leaves_of own.index)) (untouched b own) stages kept
  pub cuts : CutsWhole (found_in b kind before own) false first last kept left
  pub splits : SplitLast (found_in b kind before own) first last b own (with_both first last (leaves_of own.index)) left end
  pub go : GoAlong kind before after (untouched b own) (stages ++ left ∷ split_stage (with_both first last (leaves_of own.index)) end)
  pub takes : taken_bytes (flat_map (λ stage. stage.acts) (stages ++ left ∷ split_stage (with_both first last (leaves_of own.index)) end)) ≤ opening_room (record_bytes b own.vdr) first last own.index
  pub now_is : end.image ≡ now
  pub max_rec_is : number now own.vdr vdr_max_rec ≡ number b own.vdr vdr_max_rec
  pub r_max_rec_is : r_max_rec now ≡ r_max_rec b

-- what was taken and freed on the way, and the variable
abbrev pub opened_acts : {b now : List ℕ} {kind : Kind} {before : List VariableShape} {own : VariableShape} {after : List VariableShape} {first last : ℕ} → PackedOpened b now kind before own after first last → List Act
opened_acts {own = own} {first = first} {last = last} x = flat_map (λ stage. stage.acts) (x.stages ++ x.left ∷ split_stage (with_both first last (leaves_of own.index)) x.end)

-- The records went, and then what was past the new MaxRec. MaxRec is written behind that, unless it stays; the variable has a rule for missing records.
pub record OpeningDone (b mid past now : List ℕ) (kind : Kind) (before : List VariableShape) (own : VariableShape) (after : List VariableShape) (first last : ℕ) : Type 0 where
  pub good : Good b
  pub among : StandsAmong b kind before own after
  pub rle : is_compressed b own.vdr ≡ true
  pub rule : is_sparse (variable_of b own).sparse ≡ true
  pub order : first ≤ last
  pub has : last < extent (max_rec_at b own.vdr)
  pub cut : PackedOpened b mid kind before own after first last
  pub cut_past : PackedOpened mid past kind before cut.end.own after (extent_after (variable_of b own) first last) record_number_limit
  pub max_rec : ℕ
  pub ruled : is_max_rec max_rec ≡ true
  pub max_rec_is : with_sign max_rec ≡ last_number (extent_after (variable_of b own) first last)
  pub lowered : ((extent_after (variable_of b own) first last < extent (max_rec_at b own.vdr)) × MaxRecRaised past now kind cut_past.end.own max_rec) ⊎ ((extent_after (variable_of b own) first last ≡ extent (max_rec_at b own.vdr)) × (past ≡ now))
  pub short : length now ≤ image_limit

-- what was taken and freed by then, and the variable
abbrev pub opened_twice : {b mid past now : List ℕ} {kind : Kind} {before : List VariableShape} {own : VariableShape} {after : List VariableShape} {first last : ℕ} → OpeningDone b mid past now kind before own after first last → List Act
opened_twice x = opened_acts x.cut ++ opened_acts x.cut_past

abbrev pub opened : {b mid past now : List ℕ} {kind : Kind} {before : List VariableShape} {own : VariableShape} {after : List VariableShape} {first last : ℕ} → OpeningDone b mid past now kind before own after first last → VariableShape
opened x = x.cut_past.end.own
