-- Records as bytes, field by field in the order in which they stand (CDF Internal Format Description, "Internal Records"). Places of fields are not named here: they follow from the order.
use Rattle.std.specs.Prelude.{ℕ, ◌+◌, ◌-◌, List, [], ◌∷◌, ◌++◌, length, replicate, codes}
use Rattle.std.specs.List.{flat_map}
use Rattle.byteorder.specs.Endian.{big_bytes}

-- one part and then another; many parts group to the right
infixr 10 ◌⧺◌
abbrev pub ◌⧺◌ : List ℕ → List ℕ → List ℕ
first ⧺ second = first ++ second

-- numbers of 4 and of 8 bytes
abbrev pub four : ℕ → List ℕ
four n = big_bytes 4 n

abbrev pub eight : ℕ → List ℕ
eight n = big_bytes 8 n

-- -1 in 4 and in 8 bytes
abbrev pub minus4 : ℕ
minus4 = 0xffffffff

abbrev pub minus8 : ℕ
minus8 = 0xffffffffffffffff

abbrev pub zeros : ℕ → List ℕ
zeros n = replicate n 0

-- the 256 bytes of a name
abbrev pub named : List ℕ → List ℕ
named name = name ++ zeros (256 - length name)

-- a record of a type: its size, which counts all of it, its type, and what follows
abbrev pub sized : ℕ → List ℕ → List ℕ
sized type rest = eight (12 + length rest) ⧺ four type ⧺ rest

-- the first bytes of a file of version 3
abbrev pub magic : List ℕ
magic = four 0xcdf30001 ⧺ four 0x0000ffff

-- ---- the CDF Descriptor Record

pub record CdrFields : Type 0 where
  pub gdr_offset : ℕ
  pub encoding : ℕ
  pub flags : ℕ

-- of a new file
abbrev pub new_cdr : CdrFields
new_cdr = record { gdr_offset = 320; encoding = 6; flags = 3 }

abbrev pub copyright : List ℕ
copyright = 10 ∷ codes "Common Data Format (CDF)" ++ 10 ∷ []

abbrev pub cdr : CdrFields → List ℕ
cdr c = sized 1 (eight c.gdr_offset ⧺ four 3 ⧺ four 9 ⧺ four c.encoding ⧺ four c.flags ⧺ four 0 ⧺ four 0 ⧺ four 0 ⧺ four 2 ⧺ four minus4 ⧺ named copyright)

-- ---- the Global Descriptor Record

pub record GdrFields : Type 0 where
  pub r_head : ℕ
  pub z_head : ℕ
  pub adr_head : ℕ
  pub eof : ℕ
  pub nr_vars : ℕ
  pub num_attr : ℕ
  pub nz_vars : ℕ
  pub unused : ℕ
  pub dims : List ℕ

-- of a new file
abbrev pub new_gdr : GdrFields
new_gdr = record { r_head = 0; z_head = 0; adr_head = 0; eof = 404; nr_vars = 0; num_attr = 0; nz_vars = 0; unused = 0; dims = [] }

abbrev pub gdr : GdrFields → List ℕ
gdr g =
    sized 2 (eight g.r_head ⧺ eight g.z_head ⧺ eight g.adr_head ⧺ eight g.eof ⧺ four g.nr_vars ⧺ four g.num_attr ⧺ four minus4 ⧺ four (length g.dims) ⧺ four g.nz_vars
    ⧺ eight g.unused ⧺ four 0 ⧺ four minus4 ⧺ four minus4 ⧺ flat_map four g.dims)

-- ---- an Attribute Descriptor Record

pub record AdrFields : Type 0 where
  pub next : ℕ
  pub gr_head : ℕ
  pub scope : ℕ
  pub num : ℕ
  pub ngr_entries : ℕ
  pub max_gr_entry : ℕ
  pub z_head : ℕ
  pub nz_entries : ℕ
  pub max_z_entry : ℕ
  pub name : List ℕ

-- of a new attribute, the first one
abbrev pub new_adr : ℕ → List ℕ → AdrFields
new_adr scope name = record { next = 0; gr_head = 0; scope = scope; num = 0; ngr_entries = 0; max_gr_entry = minus4; z_head = 0; nz_entries = 0; max_z_entry = minus4; name = name }

abbrev pub adr : AdrFields → List ℕ
adr a =
    sized 4 (eight a.next ⧺ eight a.gr_head ⧺ four a.scope ⧺ four a.num ⧺ four a.ngr_entries ⧺ four a.max_gr_entry ⧺ four 0 ⧺ eight a.z_head ⧺ four a.nz_entries ⧺ four a.max_z_entry
    ⧺ four minus4 ⧺ named a.name)

-- ---- an Attribute Entry Descriptor Record

pub record EntryFields : Type 0 where
  pub next : ℕ
  pub attr_num : ℕ
  pub data_type : ℕ
  pub num : ℕ
  pub num_elems : ℕ
  pub num_strings : ℕ
  pub value : List ℕ

-- of CHAR, for the attribute and the variable 0
abbrev pub text_entry : List ℕ → EntryFields
text_entry text = record { next = 0; attr_num = 0; data_type = 51; num = 0; num_elems = length text; num_strings = 0; value = text }

abbrev pub entry : ℕ → EntryFields → List ℕ
entry type e =
    sized type (eight e.next ⧺ four e.attr_num ⧺ four e.data_type ⧺ four e.num ⧺ four e.num_elems ⧺ four e.num_strings ⧺ four 0 ⧺ four 0 ⧺ four minus4 ⧺ four minus4 ⧺ e.value)

abbrev pub gr_entry : EntryFields → List ℕ
gr_entry e = entry 5 e

abbrev pub z_entry : EntryFields → List ℕ
z_entry e = entry 9 e

-- ---- a Variable Descriptor Record

pub record VdrFields : Type 0 where
  pub next : ℕ
  pub data_type : ℕ
  pub max_rec : ℕ
  pub vxr_head : ℕ
  pub vxr_tail : ℕ
  pub flags : ℕ
  pub s_records : ℕ
  pub num_elems : ℕ
  pub num : ℕ
  pub cpr : ℕ
  pub blocking : ℕ
  pub name : List ℕ
  pub dims : List ℕ
  pub varys : List ℕ
  pub pad : List ℕ

-- of a new variable without dimensions, the first one, whose records vary
abbrev pub new_vdr : ℕ → List ℕ → VdrFields
new_vdr data_type name = record {
  next = 0;
  data_type = data_type;
  max_rec = minus4;
  vxr_head = 0;
  vxr_tail = 0;
  flags = 1;
  s_records = 0;
  num_elems = 1;
  num = 0;
  cpr = minus8;
  blocking = 0;
  name = name;
  dims = [];
  varys = [];
  pad = [];
}

-- up to its Name
abbrev pub vdr_front : VdrFields → List ℕ
vdr_front v =
    eight v.next ⧺ four v.data_type ⧺ four v.max_rec ⧺ eight v.vxr_head ⧺ eight v.vxr_tail ⧺ four v.flags ⧺ four v.s_records ⧺ four 0 ⧺ four minus4 ⧺ four minus4 ⧺ four v.num_elems ⧺ four v.num
    ⧺ eight v.cpr ⧺ four v.blocking ⧺ named v.name

abbrev pub z_vdr : VdrFields → List ℕ
z_vdr v = sized 8 (vdr_front v ⧺ four (length v.dims) ⧺ flat_map four v.dims ⧺ flat_map four v.varys ⧺ v.pad)

-- its dimensions are those of the GDR
abbrev pub r_vdr : VdrFields → List ℕ
r_vdr v = sized 3 (vdr_front v ⧺ flat_map four v.varys ⧺ v.pad)

-- ---- indexes and blocks

-- a used entry of an index
pub record VxrEntry : Type 0 where
  pub first : ℕ
  pub last : ℕ
  pub offset : ℕ

abbrev pub covering : ℕ → ℕ → ℕ → VxrEntry
covering first last offset = record { first = first; last = last; offset = offset }

-- a node of so many entries, of which these are used; the rest is -1 throughout
abbrev pub vxr_of : ℕ → ℕ → List VxrEntry → List ℕ
vxr_of room next used =
    sized 6 (eight next ⧺ four room ⧺ four (length used) ⧺ flat_map (λ e. four e.first) used ⧺ flat_map four (replicate (room - length used) minus4)
    ⧺ flat_map (λ e. four e.last) used ⧺ flat_map four (replicate (room - length used) minus4) ⧺ flat_map (λ e. eight e.offset) used ⧺ flat_map eight (replicate (room - length used) minus8))

-- of 7 entries, the only one
abbrev pub vxr : List VxrEntry → List ℕ
vxr used = vxr_of 7 0 used

abbrev pub vvr : List ℕ → List ℕ
vvr records = sized 7 records

-- packed bytes, and bytes 0 behind them
abbrev pub cvvr : List ℕ → ℕ → List ℕ
cvvr packed spare = sized 13 (four 0 ⧺ eight (length packed) ⧺ packed ⧺ zeros spare)

-- run lengths of zeros
abbrev pub cpr : List ℕ
cpr = sized 11 (four 1 ⧺ four 0 ⧺ four 1 ⧺ four 0)

-- ---- an Unused Internal Record

-- what stands behind its links stays from before
abbrev pub uir : ℕ → ℕ → List ℕ → List ℕ
uir next prev rest = sized 0xffffffff (eight next ⧺ eight prev ⧺ rest)
