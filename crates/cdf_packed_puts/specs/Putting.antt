-- How far a put into a packed variable has come, of which nothing is left to be cut first (own: records are written in ascending order, those of one leaf together).
use Rattle.std.specs.Prelude.{◌≡◌, ◌≤◌, ◌<◌, ℕ, ◌+◌, min, List, length, true}
use Rattle.cdf_edits.specs.Commands.GreatestRecord.{r_max_rec}
use Rattle.cdf_edits.specs.Commands.Room.{entries_in, packed_room, put_room, uncovered, widest}
use Rattle.cdf_edits.specs.Edits.Standing.{StandsAmong}
use Rattle.cdf_edits.specs.Index.Blocks.{cuts_before_put, first_written, firsts_of, ranges_of, record_length}
use Rattle.cdf_edits.specs.Space.Acts.{Act}
use Rattle.cdf_format.specs.Content.{variable_of}
use Rattle.cdf_format.specs.Fields.{number}
use Rattle.cdf_format.specs.Index.{Nodes, leaves_of}
use Rattle.cdf_format.specs.Records.{vdr_max_rec}
use Rattle.cdf_format.specs.Shape.{Each, VariableShape, is_compressed}
use Rattle.cdf_format.specs.VariableFields.{record_bytes}
use Rattle.cdf_format.specs.WellFormed.{Good}
use Rattle.cdf_model.specs.DataSet.{Variable, extent}
use Rattle.cdf_model.specs.Limits.{record_number_limit}
use Rattle.cdf_model.specs.declared.kinds.Kind.{Kind}
use Rattle.cdf_puts.specs.Covering.{Covering}
use Rattle.cdf_puts.specs.Putting.{most_in_block}
use Rattle.cdf_puts.specs.SharedRoom.{shared_room}
use Rattle.cdf_puts.specs.SoFar.{TopStays, taken_bytes}
use Rattle.cdf_puts.specs.declared.putting.NewRecord.{NewRecord}
use Rattle.cdf_put_steps.specs.Along.{LeavesAlong, at_start, put_in, stored_pad}
use Rattle.cdf_blocks.specs.Replaced.{stage}
use Rattle.cdf_packed_puts.specs.Rewriting.{PutsInto}

-- no block has a record from a first one on, and no entry of a node begins there
pub record EndsBefore (first : ℕ) (index : Nodes) : Type 0 where
  pub lasts : Each (λ l. l.last < first) (leaves_of index)
  pub firsts : Each (λ f. f < first) (firsts_of index)

-- A packed variable of a good image in which a record may be put, and what is put, as it is stored: what would be cut first is gone, and there is room for it under a limit.
pub record Packing (b : List ℕ) (kind : Kind) (before : List VariableShape) (own : VariableShape) (after : List VariableShape) (put : NewRecord) (limit : ℕ) : Type 0 where
  pub good : Good b
  pub among : StandsAmong b kind before own after
  pub rle : is_compressed b own.vdr ≡ true
  pub gone : cuts_before_put (variable_of b own) put.rec ≡ true → EndsBefore (extent (variable_of b own).max_rec) own.index
  pub vdr_is : own.vdr ≡ put.vdr
  pub small : put.rec ≤ record_number_limit
  pub raw_long : length put.raw.items ≡ record_bytes b own.vdr
  pub pad_is : put.pad.items ≡ stored_pad b own
  pub pad_long : length put.pad.items ≡ record_bytes b own.vdr
  pub most_is : put.most ≡ most_in_block (variable_of b own) put.rec
  pub room : length b + put_room (variable_of b own) own.index put.rec ≤ limit

-- of some variable, and the first record that is written
pub record SomePacking (b : List ℕ) (put : NewRecord) (from limit : ℕ) : Type 0 where
  pub kind : Kind
  pub before : List VariableShape
  pub own : VariableShape
  pub after : List VariableShape
  pub packing : Packing b kind before own after put limit
  pub from_is : from ≡ first_written (variable_of b own) put.rec

-- The records before one are put; the last step took and freed some, and the first image went along to the present one.
pub record PackedUpTo (b now : List ℕ) (kind : Kind) (before : List VariableShape) (own : VariableShape) (after : List VariableShape) (put : NewRecord) (k : ℕ) : Type 0 where
  pub own' : VariableShape
  pub last : List Act
  pub acts : List Act
  pub along : LeavesAlong (put_in b kind before own put.rec put.raw.items) kind before after (at_start b (put_in b kind before own put.rec put.raw.items) own) (stage now own' last k) acts
  pub max_rec_is : number now own.vdr vdr_max_rec ≡ number b own.vdr vdr_max_rec
  pub r_max_rec_is : r_max_rec now ≡ r_max_rec b
  pub tops : TopStays own.index own'.index

-- What a put of record n makes of an index: each node of the top chain stays one, at most as many entries come as records had no block, and no node is wider than the widest one was.
pub record IndexAfter (v : Variable) (index index' : Nodes) (n : ℕ) : Type 0 where
  pub tops : TopStays index index'
  pub entries : entries_in index' ≤ entries_in index + uncovered v index n
  pub as_wide : widest index' ≤ widest index

-- The put went past its record, and took no more than it has room for.
pub record PackedPut (b now : List ℕ) (kind : Kind) (before : List VariableShape) (own : VariableShape) (after : List VariableShape) (put : NewRecord) : Type 0 where
  pub next : ℕ
  pub past : put.rec < next
  pub is_put : PackedUpTo b now kind before own after put next
  pub index : IndexAfter (variable_of b own) own.index is_put.own'.index put.rec
  pub fits : taken_bytes is_put.acts ≤ put_room (variable_of b own) own.index put.rec
  pub longer : length now ≤ length b + taken_bytes is_put.acts

-- ---- a put under way

-- Record n is put into a packed variable whose index was `index` and is `index'` by now, as far as record k; so many bytes were taken by then. New blocks and their nodes took `taken` of them at most, and there is room left for each block that has a record from k on.
pub record RoomLeft (v : Variable) (index index' : Nodes) (n k bytes : ℕ) : Type 0 where
  pub taken : ℕ
  pub covers : Covering v index index' n (min k (n + 1)) taken
  pub enough : bytes + shared_room (record_length v) k n (ranges_of index') ≤ taken + packed_room v index n

-- The records before one are put, the put may go on, and there is room for it. The image is longer by no more than was taken.
pub record PackedSoFar (b now : List ℕ) (kind : Kind) (before : List VariableShape) (own : VariableShape) (after : List VariableShape) (put : NewRecord) (k : ℕ) : Type 0 where
  pub up : PackedUpTo b now kind before own after put k
  pub into : PutsInto (put_in b kind before own put.rec put.raw.items) put now kind before up.own' after
  pub room : RoomLeft (variable_of b own) own.index up.own'.index put.rec k (taken_bytes up.acts)
  pub longer : length now ≤ length b + taken_bytes up.acts

-- of some image that was there before
pub record SomePacked (now : List ℕ) (put : NewRecord) (k limit : ℕ) : Type 0 where
  pub b : List ℕ
  pub kind : Kind
  pub before : List VariableShape
  pub own : VariableShape
  pub after : List VariableShape
  pub packing : Packing b kind before own after put limit
  pub so : PackedSoFar b now kind before own after put k

-- the records before another one are put, and each node of the top chain stays one
pub record PackedOnTo (b mid now : List ℕ) (kind : Kind) (before : List VariableShape) (own : VariableShape) (after : List VariableShape) (put : NewRecord) (k next : ℕ) (was : PackedSoFar b mid kind before own after put k) : Type 0 where
  pub so : PackedSoFar b now kind before own after put next
  pub tops : TopStays was.up.own'.index so.up.own'.index

-- From one image to another the records from one on to another are put too, whatever image was there before.
abbrev pub PacksOn : List ℕ → List ℕ → ℕ → NewRecord → ℕ → ℕ → Type 0
PacksOn mid now limit put k next = (b : List ℕ) (kind : Kind) (before : List VariableShape) (own : VariableShape) (after : List VariableShape)
    → Packing b kind before own after put limit → (was : PackedSoFar b mid kind before own after put k) → PackedOnTo b mid now kind before own after put k next was

-- From one image to another the records before one are put, whatever variable it is.
abbrev pub PacksUpTo : List ℕ → List ℕ → ℕ → NewRecord → ℕ → Type 0
PacksUpTo b now limit put k = (kind : Kind) (before : List VariableShape) (own : VariableShape) (after : List VariableShape) → Packing b kind before own after put limit → PackedSoFar b now kind before own after put k
