-- A record that is put, and what a block holds that is made on the way (own).
use Rattle.byteorder.specs.Endian.{big_bytes}
use Rattle.std.specs.Prelude.{◌≡◌, ◌≤◌, ℕ, zero, suc, ◌+◌, ◌-◌, List, [], ◌++◌, length, min, nat_lt, ◌==◌, if◌then◌else◌}
use Rattle.cdf_edits.specs.Commands.Room.{put_room}
use Rattle.cdf_edits.specs.Index.Blocks.{block_count, firsts_of, next_first, first_written}
use Rattle.cdf_edits.specs.Space.Acts.{Act}
use Rattle.cdf_format.specs.Content.{variable_of}
use Rattle.cdf_format.specs.Index.{Nodes}
use Rattle.cdf_format.specs.Shape.{VariableShape}
use Rattle.cdf_format.specs.Records.{record_type}
use Rattle.cdf_format.specs.RecordTypes.{vvr_type}
use Rattle.cdf_format.specs.VariableFields.{record_bytes}
use Rattle.cdf_model.specs.declared.kinds.Kind.{Kind}
use Rattle.cdf_model.specs.DataSet.{Variable, extent}
use Rattle.cdf_puts.specs.SoFar.{PutStart, SoFar, TopStays}
use Rattle.cdf_puts.specs.declared.putting.NewRecord.{NewRecord}

-- the type of a block that is not packed
abbrev pub block_type : List ℕ
block_type = big_bytes record_type.width vvr_type

-- the bytes of a record: those that are put, or a pad
abbrev pub record_put : List ℕ → List ℕ → ℕ → ℕ → List ℕ
record_put raw pad r k = if k == r then raw else pad

-- so many records from one on
abbrev pub records_put : List ℕ → List ℕ → ℕ → ℕ → ℕ → List ℕ
records_put raw pad r zero k = []
records_put raw pad r (suc count) k = records_put raw pad r count k ++ record_put raw pad r (k + count)

-- the most records of a new block: up to MaxRec it has one
abbrev pub most_in_block : Variable → ℕ → ℕ
most_in_block v r = if nat_lt r (extent v.max_rec) then 1 else block_count v

-- the last record of a new block from record k on
abbrev pub last_in_new : ℕ → Nodes → ℕ → ℕ
last_in_new most index k = min (k + most) (next_first k (firsts_of index)) - 1

-- ---- a put under way

-- A variable in which a record may be put, and what is put: there is room for its new blocks under a limit.
pub record Putting (b : List ℕ) (kind : Kind) (before : List VariableShape) (own : VariableShape) (after : List VariableShape) (put : NewRecord) (limit : ℕ) : Type 0 where
  pub start : PutStart b kind before own after put.raw.items put.pad.items put.rec
  pub vdr_is : own.vdr ≡ put.vdr
  pub pad_long : length put.pad.items ≡ record_bytes b own.vdr
  pub most_is : put.most ≡ most_in_block (variable_of b own) put.rec
  pub room : length b + put_room (variable_of b own) own.index put.rec ≤ limit

-- the records before one are put
pub record IsPut (b now : List ℕ) (kind : Kind) (before : List VariableShape) (own : VariableShape) (after : List VariableShape) (put : NewRecord) (k : ℕ) : Type 0 where
  pub own' : VariableShape
  pub acts : List Act
  pub so : SoFar b now kind before own own' after put.raw.items put.pad.items put.rec k acts

-- of some image that was there before
pub record SomePut (now : List ℕ) (put : NewRecord) (k limit : ℕ) : Type 0 where
  pub b : List ℕ
  pub kind : Kind
  pub before : List VariableShape
  pub own : VariableShape
  pub after : List VariableShape
  pub putting : Putting b kind before own after put limit
  pub is : IsPut b now kind before own after put k

-- the records before another one are put, and each node of the top chain stays one
pub record GoesOnTo (b mid now : List ℕ) (kind : Kind) (before : List VariableShape) (own : VariableShape) (after : List VariableShape) (put : NewRecord) (k next : ℕ) (was : IsPut b mid kind before own after put k) : Type 0 where
  pub is : IsPut b now kind before own after put next
  pub tops : TopStays was.own'.index is.own'.index

-- From one image to another the records from one on to another are put too, whatever image was there before.
abbrev pub PutsOn : List ℕ → List ℕ → ℕ → NewRecord → ℕ → ℕ → Type 0
PutsOn mid now limit put k next = (b : List ℕ) (kind : Kind) (before : List VariableShape) (own : VariableShape) (after : List VariableShape)
    → Putting b kind before own after put limit → (was : IsPut b mid kind before own after put k) → GoesOnTo b mid now kind before own after put k next was

-- From one image to another the records before one are put, whatever variable it is.
abbrev pub PutsUpTo : List ℕ → List ℕ → ℕ → NewRecord → ℕ → Type 0
PutsUpTo b now limit put k = (kind : Kind) (before : List VariableShape) (own : VariableShape) (after : List VariableShape) → Putting b kind before own after put limit → IsPut b now kind before own after put k

-- a variable in which nothing is put yet
pub record SomePutting (b : List ℕ) (put : NewRecord) (from limit : ℕ) : Type 0 where
  pub kind : Kind
  pub before : List VariableShape
  pub own : VariableShape
  pub after : List VariableShape
  pub putting : Putting b kind before own after put limit
  pub from_is : from ≡ first_written (variable_of b own) put.rec
