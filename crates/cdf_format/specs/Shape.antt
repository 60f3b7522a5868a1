-- The shape of an image: which records it has and how they are linked, as lists of offsets, apart from the bytes (CDF Internal Format Description, "Internal Records"). All following of links stands here.
use Rattle.std.specs.Prelude.{◌≡◌, ◌≤◌, ℕ, List, [], ◌∷◌, ◌++◌, length, map, Bool, true, if◌then◌else◌}
use Rattle.cdf_format.specs.Fields.{number, has_bit, size_at, type_at, gdr_offset}
use Rattle.cdf_format.specs.Records.{cdr_place, gdr_r_vdr_head, gdr_z_vdr_head, gdr_adr_head, gdr_uir_head, adr_agr_edr_head, adr_az_edr_head, vdr_vxr_head, vdr_flags, vdr_compression_bit, vdr_cpr_or_spr_offset}
use Rattle.cdf_format.specs.RecordTypes.{cdr_type, gdr_type, adr_type, agr_edr_type, az_edr_type, r_vdr_type, z_vdr_type, uir_type, is_record_type, fixed_size}
use Rattle.cdf_format.specs.Walks.{Walk, records_of}
use Rattle.cdf_format.specs.Tiles.{In, AreTiles, tiles}
use Rattle.cdf_format.specs.Chains.{IsChain, is_a, chain}
use Rattle.cdf_format.specs.Index.{Nodes}
use Rattle.cdf_format.specs.IndexOf.{IsIndex}
use Rattle.cdf_format.specs.IndexWalk.{Met, index_walk, nodes_met}

-- an ADR and its entries
pub record AttributeShape : Type 0 where
  pub adr : ℕ
  pub gr_entries : List ℕ
  pub z_entries : List ℕ

-- a VDR, its index, and its CPR where it is compressed
pub record VariableShape : Type 0 where
  pub vdr : ℕ
  pub index : Nodes
  pub cpr : List ℕ

pub record Shape : Type 0 where
  pub records : List ℕ
  pub gdr : ℕ
  pub attributes : List AttributeShape
  pub r_variables : List VariableShape
  pub z_variables : List VariableShape
  pub unused : List ℕ

abbrev pub adrs : Shape → List ℕ
adrs s = map (λ a. a.adr) s.attributes

abbrev pub vdrs : List VariableShape → List ℕ
vdrs vs = map (λ v. v.vdr) vs

abbrev pub variables : Shape → List VariableShape
variables s = s.r_variables ++ s.z_variables

-- the same with other records
abbrev pub with_records : Shape → List ℕ → Shape
with_records s records = record s { records = records }

-- what Flags of a VDR say of its values
abbrev pub is_compressed : List ℕ → ℕ → Bool
is_compressed b vdr = has_bit (number b vdr vdr_flags) vdr_compression_bit

abbrev pub cpr_of : List ℕ → ℕ → List ℕ
cpr_of b vdr = if is_compressed b vdr then number b vdr vdr_cpr_or_spr_offset ∷ [] else []

-- it holds of each
abbrev pub Each : {A : Type 0} → (A → Type 0) → List A → Type 0
Each P [] = Unit {0}
Each P (a ∷ more) = P a × Each P more

-- ---- what the links say

pub record HasEntries (b records : List ℕ) (a : AttributeShape) : Type 0 where
  pub gr_chain : IsChain b records agr_edr_type (number b a.adr adr_agr_edr_head) a.gr_entries
  pub z_chain : IsChain b records az_edr_type (number b a.adr adr_az_edr_head) a.z_entries

pub record HasVariable (b records : List ℕ) (v : VariableShape) : Type 0 where
  pub indexed : IsIndex b records (number b v.vdr vdr_vxr_head) v.index
  pub packed_by : cpr_of b v.vdr ≡ v.cpr

-- the records of this image, and their links
pub record HasShape (b : List ℕ) (s : Shape) : Type 0 where
  pub tiled : AreTiles b cdr_place (length b) s.records
  pub typed : (place : ℕ) → In place s.records → is_record_type (type_at b place) ≡ true
  pub fixed : (place : ℕ) → In place s.records → fixed_size (type_at b place) ≤ size_at b place
  pub cdr_stands : is_a b s.records cdr_type cdr_place ≡ true
  pub gdr_is : gdr_offset b ≡ s.gdr
  pub gdr_stands : is_a b s.records gdr_type s.gdr ≡ true
  pub attribute_chain : IsChain b s.records adr_type (number b s.gdr gdr_adr_head) (adrs s)
  pub r_chain : IsChain b s.records r_vdr_type (number b s.gdr gdr_r_vdr_head) (vdrs s.r_variables)
  pub z_chain : IsChain b s.records z_vdr_type (number b s.gdr gdr_z_vdr_head) (vdrs s.z_variables)
  pub unused_chain : IsChain b s.records uir_type (number b s.gdr gdr_uir_head) s.unused
  pub entry_chains : Each (HasEntries b s.records) s.attributes
  pub have_variables : Each (HasVariable b s.records) (variables s)

-- ---- computed, for an image that has a shape

-- the chains that begin in the GDR and in an ADR
abbrev pub adr_chain : List ℕ → List ℕ → Walk
adr_chain b records = chain b records adr_type (gdr_offset b) gdr_adr_head

abbrev pub r_vdr_chain : List ℕ → List ℕ → Walk
r_vdr_chain b records = chain b records r_vdr_type (gdr_offset b) gdr_r_vdr_head

abbrev pub z_vdr_chain : List ℕ → List ℕ → Walk
z_vdr_chain b records = chain b records z_vdr_type (gdr_offset b) gdr_z_vdr_head

abbrev pub uir_chain : List ℕ → List ℕ → Walk
uir_chain b records = chain b records uir_type (gdr_offset b) gdr_uir_head

abbrev pub gr_entry_chain : List ℕ → List ℕ → ℕ → Walk
gr_entry_chain b records adr = chain b records agr_edr_type adr adr_agr_edr_head

abbrev pub z_entry_chain : List ℕ → List ℕ → ℕ → Walk
z_entry_chain b records adr = chain b records az_edr_type adr adr_az_edr_head

abbrev pub index_of : List ℕ → List ℕ → ℕ → Met Nodes
index_of b records vdr = index_walk b records vdr vdr_vxr_head

abbrev pub attribute_shape : List ℕ → List ℕ → ℕ → AttributeShape
attribute_shape b records adr = record { adr = adr; gr_entries = records_of (gr_entry_chain b records adr); z_entries = records_of (z_entry_chain b records adr) }

abbrev pub variable_shape : List ℕ → List ℕ → ℕ → VariableShape
variable_shape b records vdr = record { vdr = vdr; index = nodes_met (index_of b records vdr); cpr = cpr_of b vdr }

-- with these records
abbrev pub shape_in : List ℕ → List ℕ → Shape
shape_in b records = record {
  records = records;
  gdr = gdr_offset b;
  attributes = map (attribute_shape b records) (records_of (adr_chain b records));
  r_variables = map (variable_shape b records) (records_of (r_vdr_chain b records));
  z_variables = map (variable_shape b records) (records_of (z_vdr_chain b records));
  unused = records_of (uir_chain b records);
}

unfoldable pub shape : List ℕ → Shape
shape b = shape_in b (tiles b)
