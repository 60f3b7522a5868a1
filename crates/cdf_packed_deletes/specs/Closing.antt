-- Records went from a packed variable and later ones closed up, before MaxRec is written: what the image has by then, and what room that takes (own).
use Rattle.std.specs.Prelude.{◌≡◌, ◌<◌, ◌≤◌, ℕ, ◌+◌, ◌-◌, ◌*◌, max, List, [], ◌∷◌, ◌++◌, length, map, true}
use Rattle.std.specs.List.{filter, flat_map, sum}
use Rattle.cdf_edits.specs.Commands.Deleting.{untouched}
use Rattle.cdf_edits.specs.Commands.GreatestRecord.{r_max_rec}
use Rattle.cdf_edits.specs.Commands.PutSteps.{Stage}
use Rattle.cdf_edits.specs.Edits.Standing.{StandsAmong}
use Rattle.cdf_edits.specs.Space.Acts.{Act}
use Rattle.cdf_format.specs.Content.{variable_of}
use Rattle.cdf_format.specs.Fields.{number, with_sign}
use Rattle.cdf_format.specs.Index.{Leaf, leaves_of}
use Rattle.cdf_format.specs.Records.{linked_size, vdr_max_rec, vvr_bytes}
use Rattle.cdf_format.specs.Shape.{VariableShape, is_compressed}
use Rattle.cdf_format.specs.VariableFields.{max_rec_at, record_bytes, records_of_leaf}
use Rattle.cdf_format.specs.VariableRules.{is_max_rec}
use Rattle.cdf_format.specs.WellFormed.{Good}
use Rattle.cdf_model.specs.DataSet.{extent}
use Rattle.cdf_model.specs.Limits.{image_limit}
use Rattle.cdf_model.specs.RecordSteps.{last_number}
use Rattle.cdf_model.specs.declared.kinds.Kind.{Kind}
use Rattle.cdf_model.specs.declared.kinds.Sparse.TheVariants.{NoRule}
use Rattle.cdf_packed_deletes.specs.Steps.{CutsWhole, KeepSome, freed_from, keeps_some}
use Rattle.cdf_put_steps.specs.Along.{GoAlong}
use Rattle.cdf_puts.specs.Going.{found_in}
use Rattle.cdf_puts.specs.SoFar.{taken_bytes}
use Rattle.cdf_puts.specs.Steps.{MaxRecRaised}

-- the leaves that keep some of their records
abbrev pub keeping : ℕ → ℕ → List Leaf → List Leaf
keeping first last leaves = filter (keeps_some true first last) leaves

-- room for a new block with all plain bytes of each of them, where records have so many bytes
abbrev pub keeping_room : ℕ → List Leaf → ℕ
keeping_room size leaves = sum (map (λ l. max linked_size (vvr_bytes (records_of_leaf l * size))) leaves)

-- From one good image to another: each of these leaves is given the records that it keeps, and then the others go. MaxRec and rMaxRec stay.
pub record PackedClosed (b now : List ℕ) (kind : Kind) (before : List VariableShape) (own : VariableShape) (after : List VariableShape) (first last : ℕ) : Type 0 where
  pub stages : List Stage
  pub kept : Stage
  pub left : Stage
  pub keep : KeepSome (found_in b kind before own) true first last (keeping first last (leaves_of own.index)) (untouched b own) stages kept
  pub cuts : CutsWhole (found_in b kind before own) true (freed_from true first last (leaves_of own.index)) (freed_from true first last (leaves_of own.index) + (last - first)) kept left
  pub takes : taken_bytes (flat_map (λ stage. stage.acts) stages) ≤ keeping_room (record_bytes b own.vdr) (keeping first last (leaves_of own.index))
  pub go : GoAlong kind before after (untouched b own) (stages ++ left ∷ [])
  pub now_is : left.image ≡ now
  pub max_rec_is : number now own.vdr vdr_max_rec ≡ number b own.vdr vdr_max_rec
  pub r_max_rec_is : r_max_rec now ≡ r_max_rec b

-- what was taken and freed on the way
abbrev pub closed_acts : {b now : List ℕ} {kind : Kind} {before : List VariableShape} {own : VariableShape} {after : List VariableShape} {first last : ℕ} → PackedClosed b now kind before own after first last → List Act
closed_acts x = flat_map (λ stage. stage.acts) x.stages ++ x.left.acts

-- MaxRec is lowered behind that, to its last record that is left; the variable has no rule for missing records.
pub record ClosingDone (b mid now : List ℕ) (kind : Kind) (before : List VariableShape) (own : VariableShape) (after : List VariableShape) (first last : ℕ) : Type 0 where
  pub good : Good b
  pub among : StandsAmong b kind before own after
  pub rle : is_compressed b own.vdr ≡ true
  pub free : (variable_of b own).sparse ≡ NoRule
  pub order : first ≤ last
  pub has : last < extent (max_rec_at b own.vdr)
  pub cut : PackedClosed b mid kind before own after first last
  pub max_rec : ℕ
  pub ruled : is_max_rec max_rec ≡ true
  pub max_rec_is : with_sign max_rec ≡ last_number (extent (max_rec_at b own.vdr) - (last + 1 - first))
  pub lowered : MaxRecRaised mid now kind cut.left.own max_rec
  pub short : length now ≤ image_limit

-- what was taken and freed by then, and the variable
abbrev pub done_acts : {b mid now : List ℕ} {kind : Kind} {before : List VariableShape} {own : VariableShape} {after : List VariableShape} {first last : ℕ} → ClosingDone b mid now kind before own after first last → List Act
done_acts x = closed_acts x.cut

abbrev pub done_own : {b mid now : List ℕ} {kind : Kind} {before : List VariableShape} {own : VariableShape} {after : List VariableShape} {first last : ℕ} → ClosingDone b mid now kind before own after first last → VariableShape
done_own x = x.cut.left.own
