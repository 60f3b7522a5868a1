-- Records one behind the other, from a place on, by what follows the size of each, and the links between them (own).
use Rattle.std.specs.Prelude.{ℕ, zero, suc, ◌+◌, List, [], ◌∷◌, ◌++◌, length, map, Bool, ◌&&◌, nat_lt, if◌then◌else◌}
use Rattle.std.specs.List.{flat_map}
use Rattle.cdf_model.specs.declared.kinds.Kind.{Kind}
use Rattle.cdf_model.specs.declared.kinds.Kind.TheVariants.{R, Z}
use Rattle.cdf_model.specs.ByteOrder.{turned}
use Rattle.cdf_model.specs.DataSet as model
use Rattle.cdf_model.specs.Limits.{level_limit}
use Rattle.cdf_format.specs.RecordTypes.{fixed_size, adr_type, agr_edr_type, az_edr_type}
use Rattle.cdf_format.specs.Records.{aedr_bytes, past, vdr_r_pad_value, vdr_z_pad_value}
use Rattle.cdf_edits.specs.Index.Blocks.{block_count}
use Rattle.cdf_edits.specs.Index.Written.{is_worth_packing}
use Rattle.cdf_writer.specs.Bodies.{whole_record, adr_body, entry_body, vdr_body, cpr_body, vvr_body, cvvr_body, vxr_body, pad_bytes}
use Rattle.cdf_writer.specs.Groups.{grouped, fits_in, goes_on, first_number, last_number}
use Rattle.cdf_writer.specs.Packing.{packed_of}
use Rattle.cdf_writer.specs.declared.bodies.NodeEntry.{NodeEntry}

-- the link to what stands at a place, and 0 where nothing does
abbrev pub link_if : {A : Type 0} → ℕ → List A → ℕ
link_if place [] = 0
link_if place (a ∷ more) = place

-- the bytes of records one behind the other, and how many there are
abbrev pub laid : List (List ℕ) → List ℕ
laid bodies = flat_map whole_record bodies

abbrev pub laid_size : List (List ℕ) → ℕ
laid_size bodies = length (laid bodies)

-- ---- entries of an attribute

abbrev pub entry_size : ℕ × model.Entry → ℕ
entry_size (num, entry) = aedr_bytes (length entry.bytes)

-- those of one chain of the attribute n
abbrev pub entry_bodies : ℕ → Bool → ℕ → ℕ → List (ℕ × model.Entry) → List (List ℕ)
entry_bodies type little n place [] = []
entry_bodies type little n place (item ∷ more) = entry_body type little n (link_if (place + entry_size item) more) item ∷ entry_bodies type little n (place + entry_size item) more

abbrev pub entries_size : List (ℕ × model.Entry) → ℕ
entries_size [] = 0
entries_size (item ∷ more) = entry_size item + entries_size more

-- ---- attributes: each with its g entries and its z entries behind it

abbrev pub g_place : ℕ → ℕ
g_place adr = adr + fixed_size adr_type

abbrev pub z_place : ℕ → model.Attribute → ℕ
z_place adr a = g_place adr + entries_size a.g

abbrev pub past_attribute : ℕ → model.Attribute → ℕ
past_attribute adr a = z_place adr a + entries_size a.z

abbrev pub attribute_bodies : Bool → ℕ → ℕ → ℕ → model.Attribute → List (List ℕ)
attribute_bodies little n place next a =
    adr_body n next (link_if (g_place place) a.g) (link_if (z_place place a) a.z) a
    ∷ entry_bodies agr_edr_type little n (g_place place) a.g
    ++ entry_bodies az_edr_type little n (z_place place a) a.z

abbrev pub attributes_bodies : Bool → ℕ → ℕ → List model.Attribute → List (List ℕ)
attributes_bodies little n place [] = []
attributes_bodies little n place (a ∷ more) = attribute_bodies little n place (link_if (past_attribute place a) more) a ++ attributes_bodies little (suc n) (past_attribute place a) more

-- ---- the blocks of a variable

-- the stored records in blocks: as long as numbers follow each other, and as many as a block holds
abbrev pub blocks_of : model.Variable → List (List (ℕ × List ℕ))
blocks_of v = grouped (goes_on (block_count v)) v.recs

-- the plain bytes of a block
abbrev pub plain_of_block : Bool → model.Variable → List (ℕ × List ℕ) → List ℕ
plain_of_block little v records = flat_map (λ pair. turned v.type little pair.1) records

-- in a compressed variable a block is packed where that makes its record shorter
abbrev pub is_packed : Bool → List ℕ → Bool
is_packed rle plain = rle && is_worth_packing plain (packed_of plain)

abbrev pub plain_body : Bool → List ℕ → List ℕ
plain_body rle plain = if is_packed rle plain then cvvr_body (packed_of plain) else vvr_body plain

abbrev pub block_body : Bool → model.Variable → List (ℕ × List ℕ) → List ℕ
block_body little v records = plain_body v.rle (plain_of_block little v records)

abbrev pub block_bodies : Bool → model.Variable → List (List ℕ)
block_bodies little v = map (block_body little v) (blocks_of v)

-- what an index has to say of blocks that stand from a place on
abbrev pub blocks_ranged : Bool → model.Variable → ℕ → List (List (ℕ × List ℕ)) → List NodeEntry
blocks_ranged little v place [] = []
blocks_ranged little v place (records ∷ more) =
    record { first = first_number records; last = last_number records; place = place }
    ∷ blocks_ranged little v (place + length (whole_record (block_body little v records))) more

-- ---- the nodes of an index: up to 64 entries each, level by level, until one node is left

abbrev pub nodes_over : List NodeEntry → List (List NodeEntry)
nodes_over entries = grouped (fits_in 64) entries

abbrev pub first_in : List NodeEntry → ℕ
first_in [] = 0
first_in (entry ∷ more) = entry.first

abbrev pub last_in : List NodeEntry → ℕ
last_in [] = 0
last_in (entry ∷ []) = entry.last
last_in (entry ∷ next ∷ more) = last_in (next ∷ more)

-- the entries that name nodes, which stand from a place on
abbrev pub naming : ℕ → List (List NodeEntry) → List NodeEntry
naming place [] = []
naming place (node ∷ more) = record { first = first_in node; last = last_in node; place = place } ∷ naming (place + length (whole_record (vxr_body node))) more

abbrev pub node_bodies : List NodeEntry → List (List ℕ)
node_bodies entries = map vxr_body (nodes_over entries)

abbrev pub uppers : ℕ → List NodeEntry → List NodeEntry
uppers place entries = naming place (nodes_over entries)

-- over these entries, from a place on; all levels
abbrev pub index_bodies : ℕ → ℕ → List NodeEntry → List (List ℕ)
index_bodies zero place entries = []
index_bodies (suc most) place entries =
    if nat_lt 1 (length (nodes_over entries))
    then node_bodies entries ++ index_bodies most (place + laid_size (node_bodies entries)) (uppers place entries)
    else node_bodies entries

-- where the last one stands, the highest one; 0 where there are no entries
abbrev pub index_root : ℕ → ℕ → List NodeEntry → ℕ
index_root zero place entries = 0
index_root (suc most) place entries =
    if nat_lt 1 (length (nodes_over entries))
    then index_root most (place + laid_size (node_bodies entries)) (uppers place entries)
    else link_if place entries

-- ---- variables: each with its CPR where it is compressed, its blocks, and its nodes behind it

abbrev pub vdr_size : Kind → Bool → model.Variable → ℕ
vdr_size R little v = past (vdr_r_pad_value (length v.dims) (length (pad_bytes little v)))
vdr_size Z little v = past (vdr_z_pad_value (length v.dims) (length (pad_bytes little v)))

abbrev pub cpr_bodies : Bool → List (List ℕ)
cpr_bodies rle = if rle then cpr_body ∷ [] else []

-- behind a VDR, from a place on
abbrev pub blocks_place : ℕ → model.Variable → ℕ
blocks_place place v = place + laid_size (cpr_bodies v.rle)

abbrev pub nodes_place : Bool → ℕ → model.Variable → ℕ
nodes_place little place v = blocks_place place v + laid_size (block_bodies little v)

abbrev pub leaves_at : Bool → ℕ → model.Variable → List NodeEntry
leaves_at little place v = blocks_ranged little v (blocks_place place v) (blocks_of v)

abbrev pub behind_vdr : Bool → ℕ → model.Variable → List (List ℕ)
behind_vdr little place v = cpr_bodies v.rle ++ block_bodies little v ++ index_bodies level_limit (nodes_place little place v) (leaves_at little place v)

abbrev pub root_of : Bool → ℕ → model.Variable → ℕ
root_of little place v = index_root level_limit (nodes_place little place v) (leaves_at little place v)

-- -1 where it is not compressed
abbrev pub cpr_link : ℕ → Bool → ℕ
cpr_link place rle = if rle then place else 0xffffffffffffffff

abbrev pub past_vdr : Kind → Bool → ℕ → model.Variable → ℕ
past_vdr kind little vdr v = vdr + vdr_size kind little v

abbrev pub past_variable : Kind → Bool → ℕ → model.Variable → ℕ
past_variable kind little vdr v = past_vdr kind little vdr v + laid_size (behind_vdr little (past_vdr kind little vdr v) v)

abbrev pub variable_bodies : Kind → Bool → ℕ → ℕ → ℕ → model.Variable → List (List ℕ)
variable_bodies kind little n place next v =
    vdr_body kind little n next (root_of little (past_vdr kind little place v) v) (cpr_link (past_vdr kind little place v) v.rle) v
    ∷ behind_vdr little (past_vdr kind little place v) v

abbrev pub variables_bodies : Kind → Bool → ℕ → ℕ → List model.Variable → List (List ℕ)
variables_bodies kind little n place [] = []
variables_bodies kind little n place (v ∷ more) =
    variable_bodies kind little n place (link_if (past_variable kind little place v) more) v ++ variables_bodies kind little (suc n) (past_variable kind little place v) more
