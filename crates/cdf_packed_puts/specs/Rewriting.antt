-- Records of a packed variable put into the block that has them (own).
use Rattle.std.specs.Prelude.{◌≡◌, ◌≤◌, ℕ, ◌+◌, ◌-◌, ◌*◌, max, min, List, length, Some, true}
use Rattle.cdf_base.specs.Bytes.{put}
use Rattle.cdf_blocks.specs.Reading.{block_size}
use Rattle.cdf_blocks.specs.Replaced.{stage}
use Rattle.cdf_edits.specs.Commands.GreatestRecord.{r_max_rec}
use Rattle.cdf_edits.specs.Commands.PutSteps.{Put, PutsLeaf, leaf_at}
use Rattle.cdf_edits.specs.Edits.Standing.{StandsAmong}
use Rattle.cdf_edits.specs.Index.Blocks.{record_length}
use Rattle.cdf_edits.specs.Index.Written.{block_need}
use Rattle.cdf_edits.specs.Space.Acts.{Act}
use Rattle.cdf_format.specs.Fields.{number}
use Rattle.cdf_format.specs.Index.{Leaf}
use Rattle.cdf_format.specs.Records.{vdr_max_rec, linked_size, vvr_bytes}
use Rattle.cdf_format.specs.Shape.{VariableShape, is_compressed}
use Rattle.cdf_format.specs.Stored.{is_little}
use Rattle.cdf_format.specs.VariableFields.{record_bytes}
use Rattle.cdf_format.specs.WellFormed.{Good}
use Rattle.cdf_model.specs.ByteOrder.{turned}
use Rattle.cdf_model.specs.Limits.{record_number_limit}
use Rattle.cdf_model.specs.Reading.{pad_record}
use Rattle.cdf_model.specs.declared.kinds.Kind.{Kind}
use Rattle.cdf_puts.specs.Going.{GoesOn}
use Rattle.cdf_puts.specs.Putting.{records_put}
use Rattle.cdf_puts.specs.declared.putting.NewRecord.{NewRecord}

-- A put into a packed variable of a good image, which is where it was before the put, and has records of as many bytes; and the bytes of the records that are put, as they are stored.
pub record PutsInto (p : Put) (new : NewRecord) (b : List ℕ) (kind : Kind) (before : List VariableShape) (own : VariableShape) (after : List VariableShape) : Type 0 where
  pub good : Good b
  pub among : StandsAmong b kind before own after
  pub vdr_is : own.vdr ≡ new.vdr
  pub rle : is_compressed b own.vdr ≡ true
  pub kind_is : p.found.kind ≡ kind
  pub number_is : p.found.number ≡ length before
  pub was_rle : p.found.variable.rle ≡ true
  pub size_is : record_length p.found.variable ≡ record_bytes b own.vdr
  pub rec_is : p.rec ≡ new.rec
  pub raw_is : p.raw ≡ new.raw.items
  pub pad_is : new.pad.items ≡ turned p.found.variable.type (is_little b) (pad_record p.found.variable)
  pub raw_long : length new.raw.items ≡ record_bytes b own.vdr
  pub pad_long : length new.pad.items ≡ record_bytes b own.vdr
  pub small : new.rec ≤ record_number_limit

-- of some put and some variable
pub record SomePutInto (b : List ℕ) (new : NewRecord) : Type 0 where
  pub p : Put
  pub kind : Kind
  pub before : List VariableShape
  pub own : VariableShape
  pub after : List VariableShape
  pub into : PutsInto p new b kind before own after

-- the plain bytes of a block, with the records from one on written over, up to the one that is put or to the last one
abbrev pub written_over : NewRecord → ℕ → Leaf → List ℕ → List ℕ
written_over new k l plain = put plain ((k - l.first) * length new.raw.items) (records_put new.raw.items new.pad.items new.rec (min new.rec l.last + 1 - k) k)

-- From one image to another the records from one on are put that the leaf with it has; `next` is the one behind them. The record of its block needs no more than one of its plain bytes would. The put may go on.
pub record LeafPut (b now : List ℕ) (p : Put) (new : NewRecord) (kind : Kind) (before : List VariableShape) (own : VariableShape) (after : List VariableShape) (k next : ℕ) : Type 0 where
  pub own' : VariableShape
  pub acts : List Act
  pub leaf : (done : List Act) → PutsLeaf p (stage b own done k) (stage now own' acts next)
  pub into : PutsInto p new now kind before own' after
  pub needs : (l : Leaf) → leaf_at k own'.index ≡ Some l → block_need now own'.vdr l ≤ max linked_size (vvr_bytes (block_size l (length new.raw.items)))
  pub goes_on : GoesOn b now kind before own own' after acts
  pub max_rec_is : number now own.vdr vdr_max_rec ≡ number b own.vdr vdr_max_rec
  pub r_max_rec_is : r_max_rec now ≡ r_max_rec b
