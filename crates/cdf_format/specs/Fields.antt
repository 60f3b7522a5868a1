-- Numbers and fields in a list of bytes: big-endian, at places (CDF Internal Format Description, "Internal Records").
use Rattle.std.specs.Prelude.{ℕ, ℤ, pos, negsuc, zero, suc, ◌+◌, ◌-◌, ◌^◌, ◌/◌, ◌%◌, ◌==◌, ◌≤◌, List, [], ◌∷◌, ◌++◌, length, take, drop, replicate, Bool, ◌&&◌, nat_le, if◌then◌else◌}
use Rattle.std.specs.List.{before_first}
use Rattle.std.specs.Int.{w32, w64, cast_signed}
use Rattle.byteorder.specs.Endian.{big_bytes, big_from}
use Rattle.cdf_base.specs.Bytes.{put}
use Rattle.cdf_model.specs.Limits.{signed_limit}
use Rattle.cdf_format.specs.Records.{Field, past, cdr_place, record_size, record_type, cdr_gdr_offset, cdr_version, cdr_release, cdr_encoding, cdr_flags, cdr_increment, gdr_eof, gdr_nr_vars, gdr_num_attr, gdr_r_num_dims, gdr_nz_vars, gdr_r_dim_size, adr_name, vdr_name}

-- The n bytes from a place as a number without a sign. A byte outside the list counts as 0.
abbrev pub word : List ℕ → ℕ → ℕ → ℕ
word b place n = big_from place n b

-- 4 and 8 bytes as a number with a sign, in two's complement
abbrev pub signed4 : List ℕ → ℕ → ℤ
signed4 b place = cast_signed w32 (word b place 4)

abbrev pub signed8 : List ℕ → ℕ → ℤ
signed8 b place = cast_signed w64 (word b place 8)

-- n such numbers of 4 bytes, one after the other
abbrev pub words : List ℕ → ℕ → ℕ → List ℕ
words b place zero = []
words b place (suc n) = word b place 4 ∷ words b (place + 4) n

abbrev pub has_bit : ℕ → ℕ → Bool
has_bit n k = n / 2 ^ k % 2 == 1

-- below 0 there is nothing to count
abbrev pub counted : ℤ → ℕ
counted (pos n) = n
counted (negsuc n) = 0

-- a positive number of 4 bytes with a sign
abbrev pub is_positive : ℕ → Bool
is_positive n = nat_le 1 n && nat_le n signed_limit

-- 4 bytes that were read without a sign, with their sign
abbrev pub with_sign : ℕ → ℤ
with_sign n = cast_signed w32 n

-- A field of the record at a place, as a number without a sign
abbrev pub number : List ℕ → ℕ → Field → ℕ
number b place f = word b (place + f.place) f.width

-- the same with a sign
abbrev pub integer4 : List ℕ → ℕ → Field → ℤ
integer4 b place f = signed4 b (place + f.place)

abbrev pub integer8 : List ℕ → ℕ → Field → ℤ
integer8 b place f = signed8 b (place + f.place)

-- the field of the record at a place lies in the bytes
abbrev pub LiesIn : List ℕ → ℕ → Field → Type 0
LiesIn b place f = place + f.place + f.width ≤ length b

-- the bytes with this number, which fits its width, written as a field of the record at a place
unfoldable pub with_field : List ℕ → ℕ → Field → ℕ → List ℕ
with_field b place f n = put b (place + f.place) (big_bytes f.width n)

-- the bytes with a name, which fits its width, written as a field of the record at a place: the name, then bytes 0
unfoldable pub with_name : List ℕ → ℕ → Field → List ℕ → List ℕ
with_name b place f name = put b (place + f.place) (name ++ replicate (f.width - length name) 0)

-- the Name in a field of the record at a place: it ends before its first byte 0, or where the field ends
abbrev pub name_in : List ℕ → ℕ → Field → List ℕ
name_in b place f = before_first (λ byte. byte == 0) (take f.width (drop (place + f.place) b))

-- RecordSize and RecordType of the record at a place
abbrev pub size_at : List ℕ → ℕ → ℕ
size_at b place = number b place record_size

abbrev pub type_at : List ℕ → ℕ → ℕ
type_at b place = number b place record_type

-- the record at a place has room for a field
abbrev pub holds : List ℕ → ℕ → Field → Bool
holds b place f = nat_le (past f) (size_at b place)

abbrev pub Holds : List ℕ → ℕ → Field → Type 0
Holds b place f = past f ≤ size_at b place

-- the Name of the record at a place, an ADR where its type is 4, else a VDR
abbrev pub name_field : ℕ → Field
name_field type = if type == 4 then adr_name else vdr_name

abbrev pub name_at : List ℕ → ℕ → List ℕ
name_at b place = name_in b place (name_field (type_at b place))

-- The CDF Descriptor Record stands at one place in each file.
abbrev pub gdr_offset : List ℕ → ℕ
gdr_offset b = number b cdr_place cdr_gdr_offset

abbrev pub version : List ℕ → ℕ
version b = number b cdr_place cdr_version

abbrev pub release : List ℕ → ℤ
release b = integer4 b cdr_place cdr_release

abbrev pub encoding : List ℕ → ℕ
encoding b = number b cdr_place cdr_encoding

abbrev pub flags : List ℕ → ℕ
flags b = number b cdr_place cdr_flags

abbrev pub increment : List ℕ → ℤ
increment b = integer4 b cdr_place cdr_increment

-- The Global Descriptor Record stands at a place g.
abbrev pub eof : List ℕ → ℕ → ℕ
eof b g = number b g gdr_eof

abbrev pub nr_vars : List ℕ → ℕ → ℕ
nr_vars b g = number b g gdr_nr_vars

abbrev pub num_attr : List ℕ → ℕ → ℕ
num_attr b g = number b g gdr_num_attr

abbrev pub r_num_dims : List ℕ → ℕ → ℕ
r_num_dims b g = counted (integer4 b g gdr_r_num_dims)

abbrev pub nz_vars : List ℕ → ℕ → ℕ
nz_vars b g = number b g gdr_nz_vars

abbrev pub r_sizes : List ℕ → ℕ → List ℕ
r_sizes b g = words b (g + (gdr_r_dim_size 0).place) (r_num_dims b g)
