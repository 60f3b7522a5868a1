-- The table of the fields of internal records: the place of each within its record, and its width, in bytes (CDF Internal Format Description, "Internal Records"). Names are those of the format, with the record first.
use Rattle.std.specs.Prelude.{ℕ, ◌+◌, ◌*◌, List, map}

pub record Field : Type 0 where
  pub place : ℕ
  pub width : ℕ

abbrev pub field : ℕ → ℕ → Field
field place width = record { place = place; width = width }

-- where fields stand
abbrev pub places : List Field → List ℕ
places fields = map (λ f. f.place) fields

-- where a field ends in its record
abbrev pub past : Field → ℕ
past f = f.place + f.width

-- the two numbers of 4 bytes with which a file begins: version 3, and not compressed as a whole
abbrev pub magic_version_3 : ℕ
magic_version_3 = 0xcdf30001

abbrev pub magic_uncompressed : ℕ
magic_uncompressed = 0x0000ffff

-- each record
abbrev pub record_size : Field
record_size = field 0 8

abbrev pub record_type : Field
record_type = field 8 4

-- "CDF Descriptor Record", and where it stands
abbrev pub cdr_place : ℕ
cdr_place = 8

abbrev pub cdr_gdr_offset : Field
cdr_gdr_offset = field 12 8

abbrev pub cdr_version : Field
cdr_version = field 20 4

abbrev pub cdr_release : Field
cdr_release = field 24 4

abbrev pub cdr_encoding : Field
cdr_encoding = field 28 4

abbrev pub cdr_flags : Field
cdr_flags = field 32 4

-- the bits of its Flags, from the lowest one: row majority, a single file, a checksum, and that it is MD5
abbrev pub cdr_majority_bit : ℕ
cdr_majority_bit = 0

abbrev pub cdr_single_file_bit : ℕ
cdr_single_file_bit = 1

abbrev pub cdr_checksum_bit : ℕ
cdr_checksum_bit = 2

abbrev pub cdr_md5_bit : ℕ
cdr_md5_bit = 3

abbrev pub cdr_rfu_a : Field
cdr_rfu_a = field 36 4

abbrev pub cdr_rfu_b : Field
cdr_rfu_b = field 40 4

abbrev pub cdr_increment : Field
cdr_increment = field 44 4

abbrev pub cdr_identifier : Field
cdr_identifier = field 48 4

abbrev pub cdr_rfu_e : Field
cdr_rfu_e = field 52 4

abbrev pub cdr_copyright : Field
cdr_copyright = field 56 256

-- "Global Descriptor Record"
abbrev pub gdr_r_vdr_head : Field
gdr_r_vdr_head = field 12 8

abbrev pub gdr_z_vdr_head : Field
gdr_z_vdr_head = field 20 8

abbrev pub gdr_adr_head : Field
gdr_adr_head = field 28 8

abbrev pub gdr_eof : Field
gdr_eof = field 36 8

abbrev pub gdr_nr_vars : Field
gdr_nr_vars = field 44 4

abbrev pub gdr_num_attr : Field
gdr_num_attr = field 48 4

abbrev pub gdr_r_max_rec : Field
gdr_r_max_rec = field 52 4

abbrev pub gdr_r_num_dims : Field
gdr_r_num_dims = field 56 4

abbrev pub gdr_nz_vars : Field
gdr_nz_vars = field 60 4

abbrev pub gdr_uir_head : Field
gdr_uir_head = field 64 8

abbrev pub gdr_rfu_c : Field
gdr_rfu_c = field 72 4

abbrev pub gdr_leap_second_last_updated : Field
gdr_leap_second_last_updated = field 76 4

abbrev pub gdr_rfu_e : Field
gdr_rfu_e = field 80 4

-- the size of the dimension i that the r variables share, and the sizes of all n
abbrev pub gdr_r_dim_size : ℕ → Field
gdr_r_dim_size i = field (84 + 4 * i) 4

abbrev pub gdr_r_dim_sizes : ℕ → Field
gdr_r_dim_sizes n = field 84 (4 * n)

-- how many bytes a GDR has with n dimensions
abbrev pub gdr_bytes : ℕ → ℕ
gdr_bytes n = past (gdr_r_dim_sizes n)

-- "Attribute Descriptor Record"
abbrev pub adr_adr_next : Field
adr_adr_next = field 12 8

abbrev pub adr_agr_edr_head : Field
adr_agr_edr_head = field 20 8

abbrev pub adr_scope : Field
adr_scope = field 28 4

abbrev pub adr_num : Field
adr_num = field 32 4

abbrev pub adr_ngr_entries : Field
adr_ngr_entries = field 36 4

abbrev pub adr_max_gr_entry : Field
adr_max_gr_entry = field 40 4

abbrev pub adr_rfu_a : Field
adr_rfu_a = field 44 4

abbrev pub adr_az_edr_head : Field
adr_az_edr_head = field 48 8

abbrev pub adr_nz_entries : Field
adr_nz_entries = field 56 4

abbrev pub adr_max_z_entry : Field
adr_max_z_entry = field 60 4

abbrev pub adr_rfu_e : Field
adr_rfu_e = field 64 4

abbrev pub adr_name : Field
adr_name = field 68 256

-- "Attribute Entry Descriptor Record", of a gr or a z entry
abbrev pub aedr_aedr_next : Field
aedr_aedr_next = field 12 8

abbrev pub aedr_attr_num : Field
aedr_attr_num = field 20 4

abbrev pub aedr_data_type : Field
aedr_data_type = field 24 4

abbrev pub aedr_num : Field
aedr_num = field 28 4

abbrev pub aedr_num_elems : Field
aedr_num_elems = field 32 4

abbrev pub aedr_num_strings : Field
aedr_num_strings = field 36 4

abbrev pub aedr_rfu_b : Field
aedr_rfu_b = field 40 4

abbrev pub aedr_rfu_c : Field
aedr_rfu_c = field 44 4

abbrev pub aedr_rfu_d : Field
aedr_rfu_d = field 48 4

abbrev pub aedr_rfu_e : Field
aedr_rfu_e = field 52 4

-- the n bytes of its value
abbrev pub aedr_value : ℕ → Field
aedr_value n = field 56 n

-- how many bytes an AEDR has with them
abbrev pub aedr_bytes : ℕ → ℕ
aedr_bytes n = past (aedr_value n)

-- "Variable Descriptor Record", of an r or a z variable
abbrev pub vdr_vdr_next : Field
vdr_vdr_next = field 12 8

abbrev pub vdr_data_type : Field
vdr_data_type = field 20 4

abbrev pub vdr_max_rec : Field
vdr_max_rec = field 24 4

abbrev pub vdr_vxr_head : Field
vdr_vxr_head = field 28 8

abbrev pub vdr_vxr_tail : Field
vdr_vxr_tail = field 36 8

abbrev pub vdr_flags : Field
vdr_flags = field 44 4

-- the bits of its Flags, from the lowest one: records vary, there is a pad value, and the values are compressed
abbrev pub vdr_variance_bit : ℕ
vdr_variance_bit = 0

abbrev pub vdr_pad_bit : ℕ
vdr_pad_bit = 1

abbrev pub vdr_compression_bit : ℕ
vdr_compression_bit = 2

abbrev pub vdr_s_records : Field
vdr_s_records = field 48 4

abbrev pub vdr_rfu_b : Field
vdr_rfu_b = field 52 4

abbrev pub vdr_rfu_c : Field
vdr_rfu_c = field 56 4

abbrev pub vdr_rfu_f : Field
vdr_rfu_f = field 60 4

abbrev pub vdr_num_elems : Field
vdr_num_elems = field 64 4

abbrev pub vdr_num : Field
vdr_num = field 68 4

abbrev pub vdr_cpr_or_spr_offset : Field
vdr_cpr_or_spr_offset = field 72 8

abbrev pub vdr_blocking_factor : Field
vdr_blocking_factor = field 80 4

abbrev pub vdr_name : Field
vdr_name = field 84 256

-- of an r variable with d dimensions: whether its values vary along the dimension i, and the n bytes of its pad value
abbrev pub vdr_r_dim_vary : ℕ → Field
vdr_r_dim_vary i = field (340 + 4 * i) 4

abbrev pub vdr_r_pad_value : ℕ → ℕ → Field
vdr_r_pad_value d n = field (340 + 4 * d) n

-- of a z variable with d dimensions: their number, the size of the dimension i, whether its values vary along it, and the n bytes of its pad value
abbrev pub vdr_z_num_dims : Field
vdr_z_num_dims = field 340 4

abbrev pub vdr_z_dim_size : ℕ → Field
vdr_z_dim_size i = field (344 + 4 * i) 4

abbrev pub vdr_z_dim_sizes : ℕ → Field
vdr_z_dim_sizes d = field 344 (4 * d)

abbrev pub vdr_z_dim_vary : ℕ → ℕ → Field
vdr_z_dim_vary d i = field (344 + 4 * d + 4 * i) 4

abbrev pub vdr_z_pad_value : ℕ → ℕ → Field
vdr_z_pad_value d n = field (344 + 8 * d) n

-- "Variable Index Record"
abbrev pub vxr_vxr_next : Field
vxr_vxr_next = field 12 8

abbrev pub vxr_n_entries : Field
vxr_n_entries = field 20 4

abbrev pub vxr_n_used_entries : Field
vxr_n_used_entries = field 24 4

-- its entry i of n: First, Last, Offset
abbrev pub vxr_first : ℕ → Field
vxr_first i = field (28 + 4 * i) 4

abbrev pub vxr_last : ℕ → ℕ → Field
vxr_last n i = field (28 + 4 * n + 4 * i) 4

abbrev pub vxr_offset : ℕ → ℕ → Field
vxr_offset n i = field (28 + 8 * n + 8 * i) 8

-- all n entries, and the bytes of one
abbrev pub vxr_entries : ℕ → Field
vxr_entries n = field 28 (16 * n)

abbrev pub vxr_entry_size : ℕ
vxr_entry_size = (vxr_entries 1).width

-- how many bytes a VXR has with room for n entries
abbrev pub vxr_bytes : ℕ → ℕ
vxr_bytes n = past (vxr_entries n)

-- "Variable Values Record": the n bytes of its records
abbrev pub vvr_records : ℕ → Field
vvr_records n = field 12 n

-- where the byte i of them stands, and how many bytes a VVR has with n bytes of records
abbrev pub vvr_place : ℕ → ℕ
vvr_place i = (vvr_records 0).place + i

abbrev pub vvr_bytes : ℕ → ℕ
vvr_bytes n = past (vvr_records n)

-- "Compressed Variable Values Record"
abbrev pub cvvr_rfu_a : Field
cvvr_rfu_a = field 12 4

abbrev pub cvvr_c_size : Field
cvvr_c_size = field 16 8

-- its n packed bytes
abbrev pub cvvr_packed : ℕ → Field
cvvr_packed n = field 24 n

-- how many bytes a CVVR has with them
abbrev pub cvvr_bytes : ℕ → ℕ
cvvr_bytes n = past (cvvr_packed n)

-- "Compressed Parameters Record"
abbrev pub cpr_c_type : Field
cpr_c_type = field 12 4

abbrev pub cpr_rfu_a : Field
cpr_rfu_a = field 16 4

abbrev pub cpr_p_count : Field
cpr_p_count = field 20 4

-- its parameter i, and all n
abbrev pub cpr_parameter : ℕ → Field
cpr_parameter i = field (24 + 4 * i) 4

abbrev pub cpr_parameters : ℕ → Field
cpr_parameters n = field 24 (4 * n)

-- how many bytes a CPR has with them
abbrev pub cpr_bytes : ℕ → ℕ
cpr_bytes n = past (cpr_parameters n)

-- "Unused Internal Record", where it is listed
abbrev pub uir_next_uir : Field
uir_next_uir = field 12 8

abbrev pub uir_prev_uir : Field
uir_prev_uir = field 20 8

-- the least size of a record with a link to the next one of its chain: a UIR has room for its links in so many bytes
abbrev pub linked_size : ℕ
linked_size = past uir_prev_uir

-- the bytes of a link to another record
abbrev pub link_size : ℕ
link_size = uir_next_uir.width
