-- A put past MaxRec + 1 of a packed variable under a rule for missing records: what its blocks have past MaxRec is cut, the record is put, and MaxRec is raised (own).
use Rattle.std.specs.Prelude.{◌≡◌, ◌≤◌, ◌<◌, ℕ, ◌+◌, List, length, true}
use Rattle.cdf_edits.specs.Commands.PutSteps.{Stage}
use Rattle.cdf_edits.specs.Commands.Room.{put_room}
use Rattle.cdf_edits.specs.Edits.Standing.{StandsAmong}
use Rattle.cdf_edits.specs.Index.Blocks.{is_sparse}
use Rattle.cdf_edits.specs.Space.Acts.{Act}
use Rattle.cdf_format.specs.Content.{variable_of}
use Rattle.cdf_format.specs.Shape.{VariableShape, is_compressed}
use Rattle.cdf_format.specs.VariableFields.{max_rec_at, record_bytes}
use Rattle.cdf_format.specs.WellFormed.{Good}
use Rattle.cdf_model.specs.DataSet.{extent}
use Rattle.cdf_model.specs.Limits.{image_limit, record_number_limit}
use Rattle.cdf_model.specs.declared.kinds.Kind.{Kind}
use Rattle.cdf_puts.specs.Putting.{most_in_block}
use Rattle.cdf_puts.specs.SoFar.{MaxRecDone}
use Rattle.cdf_puts.specs.declared.putting.NewRecord.{NewRecord}
use Rattle.cdf_put_steps.specs.Along.{LeavesAlong, at_start, put_in, stored_pad}
use Rattle.cdf_packed_cuts.specs.Past.{PackedPast}

-- All records from a first one on, the one behind MaxRec, may be cut from a variable of a good image, as record n is past it.
pub record CutsForPut (b : List ℕ) (kind : Kind) (before : List VariableShape) (own : VariableShape) (after : List VariableShape) (first n : ℕ) : Type 0 where
  pub good : Good b
  pub among : StandsAmong b kind before own after
  pub first_is : first ≡ extent (max_rec_at b own.vdr)
  pub rule : is_sparse (variable_of b own).sparse ≡ true
  pub past : first < n

-- The variable is packed, and the record is to be put as these bytes: there is room for it under a limit.
pub record PackingToCut (b : List ℕ) (kind : Kind) (before : List VariableShape) (own : VariableShape) (after : List VariableShape) (first : ℕ) (put : NewRecord) (limit : ℕ) : Type 0 where
  pub cuts : CutsForPut b kind before own after first put.rec
  pub rle : is_compressed b own.vdr ≡ true
  pub vdr_is : own.vdr ≡ put.vdr
  pub small : put.rec ≤ record_number_limit
  pub raw_long : length put.raw.items ≡ record_bytes b own.vdr
  pub pad_is : put.pad.items ≡ stored_pad b own
  pub pad_long : length put.pad.items ≡ record_bytes b own.vdr
  pub most_is : put.most ≡ most_in_block (variable_of b own) put.rec
  pub room : length b + put_room (variable_of b own) own.index put.rec ≤ limit

-- They are cut, by these acts record n is put into the image after the cut, and MaxRec is raised in the last image.
pub record CutThenPut (b mid now : List ℕ) (kind : Kind) (before : List VariableShape) (own : VariableShape) (after : List VariableShape) (first n : ℕ) (raw : List ℕ) (cut : PackedPast b mid kind before own after first) (to : Stage) (acts : List Act) : Type 0 where
  pub cuts : CutsForPut b kind before own after first n
  pub along : LeavesAlong (put_in mid kind before cut.own' n raw) kind before after (at_start mid (put_in mid kind before cut.own' n raw) cut.own') to acts
  pub upto : n < to.next
  pub done : MaxRecDone mid to.image now kind cut.own' to.own n
  pub short : length to.image ≤ image_limit
