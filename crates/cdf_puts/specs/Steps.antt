-- The steps by which records are put: a record is written in a block, a leaf is added, and MaxRec is raised (own).
use Rattle.byteorder.specs.Endian.{big_bytes}
use Rattle.std.specs.Prelude.{◌≡◌, ◌≤◌, ◌<◌, ℕ, ◌+◌, ◌-◌, ◌*◌, List, length, max, take, drop, find, Some, None}
use Rattle.cdf_base.specs.Bytes.{put}
use Rattle.cdf_edits.specs.Commands.Puts.{max_rec_touches}
use Rattle.cdf_edits.specs.Commands.GreatestRecord.{r_max_rec, greatest_r_max_rec}
use Rattle.cdf_edits.specs.Frame.Changed.{Changed}
use Rattle.cdf_edits.specs.Index.Blocks.{range, covers, firsts_of, next_first}
use Rattle.cdf_edits.specs.Edits.Standing.{record_place}
use Rattle.cdf_format.specs.Bytes.{Same, byte}
use Rattle.cdf_format.specs.Content.{content}
use Rattle.cdf_format.specs.Fields.{number, size_at}
use Rattle.cdf_format.specs.Index.{Leaf, leaves_of}
use Rattle.cdf_format.specs.Records.{record_size, record_type, vdr_max_rec, vvr_place, vvr_bytes, linked_size}
use Rattle.cdf_format.specs.Shape.{VariableShape, Each}
use Rattle.cdf_format.specs.RecordTypes.{vvr_type}
use Rattle.cdf_format.specs.VariableFields.{record_bytes}
use Rattle.cdf_model.specs.declared.kinds.Kind.{Kind}
use Rattle.cdf_model.specs.declared.kinds.Kind.TheVariants.{R}

-- ---- records are written in their block

-- these bytes are written from record k on, which the block of this leaf has, among its records, and no other byte changes
pub record RecordsWritten (b now : List ℕ) (own : VariableShape) (l : Leaf) (k : ℕ) (raw : List ℕ) : Type 0 where
  pub found : find (λ (leaf : Leaf). covers k (range leaf.first leaf.last)) (leaves_of own.index) ≡ Some l
  pub within : (k - l.first) * record_bytes b own.vdr + length raw ≤ (l.last + 1 - l.first) * record_bytes b own.vdr
  pub written : now ≡ put b (record_place l (record_bytes b own.vdr) k) raw

-- ---- a leaf is added

-- no block has record `first`, and no entry begins past it up to `last`
pub record IsVacant (own : VariableShape) (first last : ℕ) : Type 0 where
  pub ordered : first ≤ last
  pub uncovered : find (λ (leaf : Leaf). covers first (range leaf.first leaf.last)) (leaves_of own.index) ≡ None
  pub before_next : last < next_first first (firsts_of own.index)

-- What is written for a block of so many records: its type, the records, and bytes 0 up to the least size of a record.
pub record IsBlockBody (body : List ℕ) (records : List ℕ) : Type 0 where
  pub type_is : take record_type.width body ≡ big_bytes record_type.width vvr_type
  pub records_are : take (length records) (drop record_type.width body) ≡ records
  pub spare : (i : ℕ) → record_type.width + length records ≤ i → i < length body → byte body i ≡ 0
  pub as_long : length body ≡ max (linked_size - record_size.width) (record_type.width + length records)

-- ---- what a leaf more leaves

-- the blocks that were there stay, and the new one has these records
pub record BlocksGoOn (b now : List ℕ) (own : VariableShape) (new : Leaf) (records : List ℕ) : Type 0 where
  pub old : Each (λ (l : Leaf). Same b now l.place (l.place + size_at b l.place)) (leaves_of own.index)
  pub size_is : size_at now new.place ≡ max linked_size (vvr_bytes (length records))
  pub records_are : take (length records) (drop (new.place + vvr_place 0) now) ≡ records
  pub spare : (i : ℕ) → vvr_bytes (length records) ≤ i → i < size_at now new.place → byte now (new.place + i) ≡ 0

-- ---- MaxRec is raised

-- MaxRec becomes r, and of an r variable rMaxRec follows
pub record MaxRecRaised (b now : List ℕ) (kind : Kind) (own : VariableShape) (r : ℕ) : Type 0 where
  pub changed : Changed b now (max_rec_touches b kind own.vdr)
  pub as_long : length now ≡ length b
  pub max_rec_is : number now own.vdr vdr_max_rec ≡ r
  pub greatest : kind ≡ R → r_max_rec now ≡ greatest_r_max_rec (content now)
