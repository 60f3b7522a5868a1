-- What `del-recs` under a sparse rule and `set-sparse` do, by the images between (CDF Internal Format Description, "Variable Index Record", "Variable Values Record", "Compressed Variable Values Record"; own: records keep their numbers, and what is past the new MaxRec is cut after the others). The order in which a cut takes and frees is free.
use Rattle.std.specs.Prelude.{◌≡◌, ℕ, List, [], ◌∷◌, ◌++◌, length, Bool, true, false, nat_lt}
use Rattle.cdf_model.specs.declared.kinds.Sparse.{Sparse}
use Rattle.cdf_model.specs.DataSet.{extent}
use Rattle.cdf_model.specs.Limits.{record_number_limit}
use Rattle.cdf_model.specs.Names.{Found}
use Rattle.cdf_edits.specs.Commands.GreatestRecord.{RMaxRecFollows}
use Rattle.cdf_edits.specs.Commands.PutSteps.{Stage, BlockWritten, Goes}
use Rattle.cdf_edits.specs.Commands.Puts.{max_rec_touches}
use Rattle.cdf_edits.specs.Frame.Changed.{Changed, touched_field}
use Rattle.cdf_edits.specs.Index.Blocks.{shared, extent_after}
use Rattle.cdf_edits.specs.Index.Cut.{IsPart, is_whole, CutsIndex, BlockPlaced, IsPlaced, part_bytes}
use Rattle.cdf_edits.specs.Commands.Cuts.{DeletesRecords}
use Rattle.cdf_edits.specs.Index.Grown.{kept_open, split_off, index_cut_open}
use Rattle.cdf_edits.specs.Space.Acts.{Act}
use Rattle.cdf_format.specs.Index.{Leaf, leaves_of}
use Rattle.cdf_format.specs.Records.{vdr_s_records}
use Rattle.cdf_format.specs.Shape.{VariableShape, Each}
use Rattle.cdf_format.specs.VariableFields.{max_rec_at, sparse_at}

-- ---- one cut, after which later records keep their numbers

-- A leaf keeps its records before those that go in its block, or else those behind them, which then move to the front. The block stays in its record where it can, or it is placed anew.
pub record LeafKept (found : Found) (first last : ℕ) (from to : Stage) (old new : Leaf) : Type 0 where
  pub placed : IsPlaced from.image to.image found.variable to.own.vdr (kept_open first last) to.acts old new
  pub written : IsPart (kept_open first last) old new → is_whole old new ≡ false → BlockWritten from.image to.image found.variable.rle to.own.vdr to.acts new (part_bytes from.image found.variable to.own.vdr old new)

-- where it has both, those behind get a new block
pub record LeafSplit (found : Found) (first last : ℕ) (from to : Stage) (old new : Leaf) : Type 0 where
  pub placed : IsPart (split_off first last) old new → BlockPlaced to.image to.own.vdr to.acts old new false
  pub written : IsPart (split_off first last) old new → BlockWritten from.image to.image found.variable.rle to.own.vdr to.acts new (part_bytes from.image found.variable to.own.vdr old new)

-- From one image to another the records from a first to a last go from the index of a variable. A block that loses none stays, as all else does, and what is freed keeps its bytes.
pub record CutsOpen (found : Found) (first last : ℕ) (from to : Stage) : Type 0 where
  pub index : CutsIndex found.variable (kept_open first last) from.own.index (index_cut_open first last from.own.index) to.own.index to.acts
  pub kept : Each (λ old. Each (LeafKept found first last from to old) (leaves_of to.own.index)) (leaves_of from.own.index)
  pub split : Each (λ old. Each (LeafSplit found first last from to old) (leaves_of to.own.index)) (leaves_of from.own.index)
  pub goes : Goes found from to (λ r. nat_lt 0 (shared first last r))
  pub next_is : to.next ≡ from.next

-- an image in which nothing was taken or freed so far, and where the records of the variable stand in it; a cut puts no record
abbrev pub untouched : List ℕ → VariableShape → Stage
untouched image own = record { image = image; own = own; acts = []; next = 0 }

-- ---- the commands

-- The records go, and then what is past the new MaxRec. Then MaxRec is written, and rMaxRec follows.
pub record DeletesUnderRule (b now : List ℕ) (found : Found) (first last : ℕ) (before after : VariableShape) (acts : List Act) : Type 0 where
  pub cut : Stage
  pub left : Stage
  pub cuts : CutsOpen found first last (untouched b before) cut
  pub cuts_past : CutsOpen found (extent_after found.variable first last) record_number_limit cut left
  pub acts_are : acts ≡ cut.acts ++ left.acts
  pub stands : after ≡ left.own
  pub changed : Changed left.image now (max_rec_touches left.image found.kind left.own.vdr)
  pub as_long : length now ≡ length left.image
  pub max_rec_is : extent (max_rec_at now after.vdr) ≡ extent_after found.variable first last
  pub r_max_rec : RMaxRecFollows b now

-- by the rule of the variable
abbrev pub Deletes : List ℕ → List ℕ → Found → ℕ → ℕ → VariableShape → VariableShape → List Act → Bool → Type 0
Deletes b now found first last before after acts true = DeletesUnderRule b now found first last before after acts
Deletes b now found first last before after acts false = DeletesRecords b now found.variable first last before after acts

-- all records go, also those past MaxRec; then SRecords is written
pub record SetsSparse (b now : List ℕ) (found : Found) (rule : Sparse) (before after : VariableShape) (acts : List Act) : Type 0 where
  pub left : Stage
  pub cuts : CutsOpen found 0 record_number_limit (untouched b before) left
  pub acts_are : acts ≡ left.acts
  pub stands : after ≡ left.own
  pub changed : Changed left.image now (touched_field left.own.vdr vdr_s_records ∷ [])
  pub as_long : length now ≡ length left.image
  pub rule_is : sparse_at now after.vdr ≡ rule
