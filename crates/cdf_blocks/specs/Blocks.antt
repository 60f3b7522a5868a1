-- What the block of a leaf holds, what a new record for it has, and where an entry names it (own; CDF Internal Format Description, "Variable Values Record", "Compressed Variable Values Record").
use Rattle.std.specs.Prelude.{◌≡◌, ◌<◌, ◌≤◌, ℕ, ◌+◌, ◌-◌, ◌*◌, max, List, [], ◌∷◌, ◌++◌, length, replicate, Bool, true, false}
use Rattle.cdf_edits.specs.Edits.Standing.{IsOneOf, StandsAmong}
use Rattle.cdf_edits.specs.Frame.Changed.{Changed, Touch, touched_field}
use Rattle.cdf_edits.specs.Index.Written.{is_worth_packing}
use Rattle.cdf_edits.specs.Space.Placing.{laid_out}
use Rattle.cdf_format.specs.Fields.{number}
use Rattle.cdf_format.specs.Index.{Leaf, Nodes, leaves_of, nodes_of, room_at, used_count}
use Rattle.cdf_format.specs.IndexOf.{SaysEntry}
use Rattle.cdf_format.specs.RecordTypes.{cvvr_type, vvr_type}
use Rattle.cdf_format.specs.Records.{cvvr_bytes, cvvr_c_size, cvvr_packed, cvvr_rfu_a, linked_size, past, record_size, record_type, vvr_bytes, vvr_records}
use Rattle.cdf_format.specs.Shape.{VariableShape, is_compressed}
use Rattle.cdf_format.specs.Stored.{field_bytes, packed_bytes}
use Rattle.cdf_format.specs.Tiles.{In}
use Rattle.cdf_format.specs.VariableFields.{record_bytes}
use Rattle.cdf_format.specs.WellFormed.{Good}
use Rattle.cdf_model.specs.RunLengths.{IsLongest, Packs}
use Rattle.cdf_model.specs.declared.kinds.Kind.{Kind}
use Rattle.cdf_packed.specs.Choice.{IsChosen}
use Rattle.cdf_blocks.specs.declared.placing.Part.{Part}
use Rattle.cdf_blocks.specs.declared.placing.Site.{Site}

-- ---- the bytes of a block

-- the type of a block, and where so many bytes end that are stored in it
abbrev pub type_of_block : Bool → ℕ
type_of_block packed = elim packed [ true ↦ cvvr_type | false ↦ vvr_type ]

abbrev pub stored_end : Bool → ℕ → ℕ
stored_end packed n = elim packed [ true ↦ cvvr_bytes n | false ↦ vvr_bytes n ]

-- these bytes are stored in it
abbrev pub Holds : List ℕ → ℕ → List ℕ → Bool → Type 0
Holds now place bytes true = (number now place cvvr_c_size ≡ length bytes) × (packed_bytes now place ≡ bytes)
Holds now place bytes false = field_bytes now place (vvr_records (length bytes)) ≡ bytes

-- they are what is stored of these plain bytes, packed where that makes the record shorter
abbrev pub Stores : List ℕ → List ℕ → Bool → Type 0
Stores plain bytes true = Packs bytes plain × IsLongest bytes × (is_worth_packing plain bytes ≡ true)
Stores plain bytes false = bytes ≡ plain

pub record StoredAs (plain : List ℕ) (packed : Bool) (bytes : List ℕ) : Type 0 where
  pub chosen : IsChosen plain packed
  pub stores : Stores plain bytes packed

-- ---- written in its record

abbrev pub stored_touches : ℕ → ℕ → Bool → List Touch
stored_touches place n true = touched_field place cvvr_c_size ∷ touched_field place (cvvr_packed n) ∷ []
stored_touches place n false = touched_field place (vvr_records n) ∷ []

pub record Overwritten (b now : List ℕ) (place : ℕ) (packed : Bool) (bytes : List ℕ) : Type 0 where
  pub as_long : length now ≡ length b
  pub changed : Changed b now (stored_touches place (length bytes) packed)
  pub holds : Holds now place bytes packed

-- ---- a new record

-- a body with bytes 0 behind it where it would make a record of less than the least size
abbrev pub spared : List ℕ → List ℕ
spared body = body ++ replicate (linked_size - past record_size - length body) 0

-- its type, of a packed block rfuA and cSize, and the bytes
abbrev pub stored_body : List ℕ → Bool → List ℕ
stored_body bytes true = laid_out ((record_type, cvvr_type) ∷ (cvvr_rfu_a, 0) ∷ (cvvr_c_size, length bytes) ∷ []) ++ bytes
stored_body bytes false = laid_out ((record_type, vvr_type) ∷ []) ++ bytes

abbrev pub block_body : Bool → List ℕ → List ℕ
block_body packed bytes = spared (stored_body bytes packed)

-- ---- where its leaf stands

-- an entry of a node of an index names the block of a leaf
pub record IsSite (b : List ℕ) (index : Nodes) (site : Site) (l : Leaf) : Type 0 where
  pub there : In site.node (nodes_of index)
  pub room_is : site.room ≡ room_at b site.node
  pub used : site.number < used_count b site.node
  pub says : SaysEntry b site.node site.number l.first l.last l.place

-- records from a first to a last are among those of a leaf
pub record LiesIn (l : Leaf) (first last : ℕ) : Type 0 where
  pub begins : l.first ≤ first
  pub ordered : first ≤ last
  pub ends : last ≤ l.last

-- A leaf of a packed variable of a good image, which this entry names, and as many plain bytes as these records of it have, which are stored so; there is room for a new record under a limit.
pub record IsLeafOf (b : List ℕ) (kind : Kind) (before : List VariableShape) (own : VariableShape) (after : List VariableShape) (site : Site) (l : Leaf) (part : Part) (plain : List ℕ) (packed : Bool) (bytes : List ℕ) (limit : ℕ) : Type 0 where
  pub good : Good b
  pub among : StandsAmong b kind before own after
  pub rle : is_compressed b own.vdr ≡ true
  pub one : IsOneOf (leaves_of own.index) l
  pub site_is : IsSite b own.index site l
  pub lies : LiesIn l part.first part.last
  pub as_long : length plain ≡ (part.last + 1 - part.first) * record_bytes b own.vdr
  pub stored : StoredAs plain packed bytes
  pub room : length b + max linked_size (stored_end packed (length bytes)) ≤ limit

-- of some variable, and of some plain bytes
pub record HasLeaf (b : List ℕ) (site : Site) (l : Leaf) (part : Part) (packed : Bool) (bytes : List ℕ) (limit : ℕ) : Type 0 where
  pub kind : Kind
  pub before : List VariableShape
  pub own : VariableShape
  pub after : List VariableShape
  pub plain : List ℕ
  pub leaf : IsLeafOf b kind before own after site l part plain packed bytes limit

-- likewise, before it is known how they are stored
pub record IsPartOf (b : List ℕ) (kind : Kind) (before : List VariableShape) (own : VariableShape) (after : List VariableShape) (site : Site) (l : Leaf) (part : Part) (plain : List ℕ) (limit : ℕ) : Type 0 where
  pub good : Good b
  pub among : StandsAmong b kind before own after
  pub rle : is_compressed b own.vdr ≡ true
  pub one : IsOneOf (leaves_of own.index) l
  pub site_is : IsSite b own.index site l
  pub lies : LiesIn l part.first part.last
  pub as_long : length plain ≡ (part.last + 1 - part.first) * record_bytes b own.vdr
  pub room : length b + max linked_size (vvr_bytes (length plain)) ≤ limit

pub record HasPart (b : List ℕ) (site : Site) (l : Leaf) (part : Part) (plain : List ℕ) (limit : ℕ) : Type 0 where
  pub kind : Kind
  pub before : List VariableShape
  pub own : VariableShape
  pub after : List VariableShape
  pub is_part : IsPartOf b kind before own after site l part plain limit

-- of all records of the leaf
pub record IsPlainOf (b : List ℕ) (kind : Kind) (before : List VariableShape) (own : VariableShape) (after : List VariableShape) (site : Site) (l : Leaf) (plain : List ℕ) (limit : ℕ) : Type 0 where
  pub good : Good b
  pub among : StandsAmong b kind before own after
  pub rle : is_compressed b own.vdr ≡ true
  pub one : IsOneOf (leaves_of own.index) l
  pub site_is : IsSite b own.index site l
  pub as_long : length plain ≡ (l.last + 1 - l.first) * record_bytes b own.vdr
  pub room : length b + max linked_size (vvr_bytes (length plain)) ≤ limit

pub record HasPlain (b : List ℕ) (site : Site) (l : Leaf) (plain : List ℕ) (limit : ℕ) : Type 0 where
  pub kind : Kind
  pub before : List VariableShape
  pub own : VariableShape
  pub after : List VariableShape
  pub is_plain : IsPlainOf b kind before own after site l plain limit
