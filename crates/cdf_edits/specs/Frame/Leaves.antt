-- A change within the records of one owner: what the laws on separation speak of.
use Rattle.std.specs.Prelude.{◌≡◌, ◌≤◌, ℕ, ◌+◌, List, length, if◌then◌else◌}
use Rattle.cdf_edits.specs.Frame.Changed.{Touch, Changed, Misses}
use Rattle.cdf_format.specs.Chains.{is_in, IsChain, linked_types, next_field}
use Rattle.cdf_format.specs.Content.{attribute_of, variable_of}
use Rattle.cdf_format.specs.Fields.{number, size_at, type_at, gdr_offset, release, encoding, flags, increment, r_num_dims, r_sizes}
use Rattle.cdf_format.specs.Records.{Field, past, record_type, cdr_place, cdr_gdr_offset, cdr_encoding, gdr_r_vdr_head, gdr_z_vdr_head, gdr_adr_head, gdr_r_num_dims, gdr_r_dim_sizes, gdr_uir_head}
use Rattle.cdf_format.specs.RecordTypes.{adr_type, r_vdr_type, z_vdr_type, uir_type}
use Rattle.cdf_format.specs.Shape.{AttributeShape, VariableShape, Shape, adrs, vdrs, Each, HasEntries, HasVariable}
use Rattle.cdf_format.specs.Tiles.{In, AreTiles}

-- ---- a change within some of its records

-- what follows RecordSize, RecordType and, in a chain of the file, the next field of a record
abbrev pub after_links : List ℕ → ℕ → ℕ
after_links b place = if is_in (type_at b place) linked_types then past next_field else past record_type

-- a touch within one of these records that leaves its size, its type and its next field
pub record LeavesLinks (b own : List ℕ) (t : Touch) : Type 0 where
  pub inside : In t.tile own
  pub fits : t.place + t.width ≤ size_at b t.tile
  pub later : after_links b t.tile ≤ t.place

-- an image that differs within these records alone, and in none of their sizes, types and next fields; it may go on behind the old end
pub record ChangedWithin (b now own : List ℕ) : Type 0 where
  pub touches : List Touch
  pub changed : Changed b now touches
  pub within : Each (LeavesLinks b own) touches

-- ---- what it leaves

-- the chains that begin in the GDR, in an image that may have more records by now
pub record ChainsStay (now records : List ℕ) (s : Shape) : Type 0 where
  pub gdr_is : gdr_offset now ≡ s.gdr
  pub attribute_chain : IsChain now records adr_type (number now s.gdr gdr_adr_head) (adrs s)
  pub r_chain : IsChain now records r_vdr_type (number now s.gdr gdr_r_vdr_head) (vdrs s.r_variables)
  pub z_chain : IsChain now records z_vdr_type (number now s.gdr gdr_z_vdr_head) (vdrs s.z_variables)
  pub unused_chain : IsChain now records uir_type (number now s.gdr gdr_uir_head) s.unused

-- what the CDR and the GDR say of the data set
pub record FileStays (b now : List ℕ) (s : Shape) : Type 0 where
  pub release_is : release now ≡ release b
  pub increment_is : increment now ≡ increment b
  pub encoding_is : encoding now ≡ encoding b
  pub flags_are : flags now ≡ flags b
  pub sizes_are : r_sizes now s.gdr ≡ r_sizes b s.gdr

abbrev pub AttributeStays : List ℕ → List ℕ → List ℕ → AttributeShape → Type 0
AttributeStays b now records a = HasEntries now records a × (attribute_of now a ≡ attribute_of b a)

abbrev pub VariableStays : List ℕ → List ℕ → List ℕ → VariableShape → Type 0
VariableStays b now records v = HasVariable now records v × (variable_of now v ≡ variable_of b v)

-- for the CDR and the GDR: a touch misses this field
abbrev pub MissesField : List Touch → ℕ → Field → Type 0
MissesField touches place f = Misses touches place f.place (f.place + f.width)

-- touches of the CDR and the GDR that leave what others are found and read by
pub record LeavesFinding (b : List ℕ) (s : Shape) (touches : List Touch) : Type 0 where
  pub gdr_offset_stays : MissesField touches cdr_place cdr_gdr_offset
  pub encoding_stays : MissesField touches cdr_place cdr_encoding
  pub attribute_head : MissesField touches s.gdr gdr_adr_head
  pub r_head : MissesField touches s.gdr gdr_r_vdr_head
  pub z_head : MissesField touches s.gdr gdr_z_vdr_head
  pub unused_head : MissesField touches s.gdr gdr_uir_head
  pub dimensions_stay : MissesField touches s.gdr gdr_r_num_dims
  pub sizes_stay : MissesField touches s.gdr (gdr_r_dim_sizes (r_num_dims b s.gdr))

-- the tiling up to the old end, the chains, and these attributes and variables stay
pub record Leaves (b now : List ℕ) (s : Shape) (records : List ℕ) (attributes : List AttributeShape) (others : List VariableShape) : Type 0 where
  pub tiled : AreTiles now cdr_place (length b) s.records
  pub chains_stay : ChainsStay now records s
  pub attributes_stay : Each (AttributeStays b now records) attributes
  pub variables_stay : Each (VariableStays b now records) others
