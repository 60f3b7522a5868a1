-- The heads of the records at a place: the fields of the table, each with its sign (CDF Internal Format Description).
use Rattle.std.specs.Prelude.{ℕ, ℤ, ◌+◌, List}
use Rattle.std.specs.Int.{w32, w64, cast_signed}
use Rattle.cdf_format.specs.Fields.{word}
use Rattle.cdf_format.specs.Records.{Field, record_size, record_type, cdr_gdr_offset, cdr_version, cdr_release, cdr_encoding, cdr_flags, cdr_rfu_a, cdr_rfu_b, cdr_increment, cdr_identifier, cdr_rfu_e, gdr_r_vdr_head, gdr_z_vdr_head, gdr_adr_head, gdr_eof, gdr_nr_vars, gdr_num_attr, gdr_r_max_rec, gdr_r_num_dims, gdr_nz_vars, gdr_uir_head, gdr_rfu_c, gdr_leap_second_last_updated, gdr_rfu_e, aedr_aedr_next, aedr_attr_num, aedr_data_type, aedr_num, aedr_num_elems, aedr_num_strings, aedr_rfu_b, aedr_rfu_c, aedr_rfu_d, aedr_rfu_e, vdr_vdr_next, vdr_data_type, vdr_max_rec, vdr_vxr_head, vdr_vxr_tail, vdr_flags, vdr_s_records, vdr_rfu_b, vdr_rfu_c, vdr_rfu_f, vdr_num_elems, vdr_num, vdr_cpr_or_spr_offset, vdr_blocking_factor, vxr_vxr_next, vxr_n_entries, vxr_n_used_entries, cpr_c_type, cpr_rfu_a, cpr_p_count, cvvr_rfu_a, cvvr_c_size, uir_next_uir, uir_prev_uir}
use Rattle.cdf_records.specs.declared.cdr.Cdr.{Cdr}
use Rattle.cdf_records.specs.declared.gdr.Gdr.{Gdr}
use Rattle.cdf_records.specs.declared.aedr.Aedr.{Aedr}
use Rattle.cdf_records.specs.declared.vdr.Vdr.{Vdr}
use Rattle.cdf_records.specs.declared.vxr.Vxr.{Vxr}
use Rattle.cdf_records.specs.declared.cpr.Cpr.{Cpr}
use Rattle.cdf_records.specs.declared.cvvr.Cvvr.{Cvvr}
use Rattle.cdf_records.specs.declared.uir.Uir.{Uir}

-- Fields are read by a function from a place and a width to a number. This is a field of the record at a place, without a sign and with one.
abbrev pub plain : (ℕ → ℕ → ℕ) → ℕ → Field → ℕ
plain read place f = read (place + f.place) f.width

abbrev pub signed4 : (ℕ → ℕ → ℕ) → ℕ → Field → ℤ
signed4 read place f = cast_signed w32 (plain read place f)

abbrev pub signed8 : (ℕ → ℕ → ℕ) → ℕ → Field → ℤ
signed8 read place f = cast_signed w64 (plain read place f)

-- "CDF Descriptor Record", up to its Copyright
abbrev pub cdr_by : (ℕ → ℕ → ℕ) → ℕ → Cdr
cdr_by read place = record {
  record_size = plain read place record_size;
  record_type = signed4 read place record_type;
  gdr_offset = plain read place cdr_gdr_offset;
  version = signed4 read place cdr_version;
  release = signed4 read place cdr_release;
  encoding = signed4 read place cdr_encoding;
  flags = plain read place cdr_flags;
  rfu_a = signed4 read place cdr_rfu_a;
  rfu_b = signed4 read place cdr_rfu_b;
  increment = signed4 read place cdr_increment;
  identifier = signed4 read place cdr_identifier;
  rfu_e = signed4 read place cdr_rfu_e;
}

abbrev pub cdr_at : List ℕ → ℕ → Cdr
cdr_at b place = cdr_by (word b) place

-- "Global Descriptor Record", up to the sizes of its dimensions
abbrev pub gdr_by : (ℕ → ℕ → ℕ) → ℕ → Gdr
gdr_by read place = record {
  record_size = plain read place record_size;
  record_type = signed4 read place record_type;
  r_vdr_head = plain read place gdr_r_vdr_head;
  z_vdr_head = plain read place gdr_z_vdr_head;
  adr_head = plain read place gdr_adr_head;
  eof = plain read place gdr_eof;
  nr_vars = signed4 read place gdr_nr_vars;
  num_attr = signed4 read place gdr_num_attr;
  r_max_rec = signed4 read place gdr_r_max_rec;
  r_num_dims = signed4 read place gdr_r_num_dims;
  nz_vars = signed4 read place gdr_nz_vars;
  uir_head = plain read place gdr_uir_head;
  rfu_c = signed4 read place gdr_rfu_c;
  leap_second_last_updated = signed4 read place gdr_leap_second_last_updated;
  rfu_e = signed4 read place gdr_rfu_e;
}

abbrev pub gdr_at : List ℕ → ℕ → Gdr
gdr_at b place = gdr_by (word b) place

-- "Attribute Entry Descriptor Record", up to its value
abbrev pub aedr_by : (ℕ → ℕ → ℕ) → ℕ → Aedr
aedr_by read place = record {
  record_size = plain read place record_size;
  record_type = signed4 read place record_type;
  aedr_next = plain read place aedr_aedr_next;
  attr_num = signed4 read place aedr_attr_num;
  data_type = signed4 read place aedr_data_type;
  num = signed4 read place aedr_num;
  num_elems = signed4 read place aedr_num_elems;
  num_strings = signed4 read place aedr_num_strings;
  rfu_b = signed4 read place aedr_rfu_b;
  rfu_c = signed4 read place aedr_rfu_c;
  rfu_d = signed4 read place aedr_rfu_d;
  rfu_e = signed4 read place aedr_rfu_e;
}

abbrev pub aedr_at : List ℕ → ℕ → Aedr
aedr_at b place = aedr_by (word b) place

-- "Variable Descriptor Record", up to its Name
abbrev pub vdr_by : (ℕ → ℕ → ℕ) → ℕ → Vdr
vdr_by read place = record {
  record_size = plain read place record_size;
  record_type = signed4 read place record_type;
  vdr_next = plain read place vdr_vdr_next;
  data_type = signed4 read place vdr_data_type;
  max_rec = signed4 read place vdr_max_rec;
  vxr_head = plain read place vdr_vxr_head;
  vxr_tail = plain read place vdr_vxr_tail;
  flags = plain read place vdr_flags;
  s_records = signed4 read place vdr_s_records;
  rfu_b = signed4 read place vdr_rfu_b;
  rfu_c = signed4 read place vdr_rfu_c;
  rfu_f = signed4 read place vdr_rfu_f;
  num_elems = signed4 read place vdr_num_elems;
  num = signed4 read place vdr_num;
  cpr_or_spr_offset = signed8 read place vdr_cpr_or_spr_offset;
  blocking_factor = signed4 read place vdr_blocking_factor;
}

abbrev pub vdr_at : List ℕ → ℕ → Vdr
vdr_at b place = vdr_by (word b) place

-- "Variable Index Record", up to its entries
abbrev pub vxr_by : (ℕ → ℕ → ℕ) → ℕ → Vxr
vxr_by read place = record {
  record_size = plain read place record_size;
  record_type = signed4 read place record_type;
  vxr_next = plain read place vxr_vxr_next;
  n_entries = signed4 read place vxr_n_entries;
  n_used_entries = signed4 read place vxr_n_used_entries;
}

abbrev pub vxr_at : List ℕ → ℕ → Vxr
vxr_at b place = vxr_by (word b) place

-- "Compressed Parameters Record", up to its parameters
abbrev pub cpr_by : (ℕ → ℕ → ℕ) → ℕ → Cpr
cpr_by read place = record {
  record_size = plain read place record_size;
  record_type = signed4 read place record_type;
  c_type = signed4 read place cpr_c_type;
  rfu_a = signed4 read place cpr_rfu_a;
  p_count = signed4 read place cpr_p_count;
}

abbrev pub cpr_at : List ℕ → ℕ → Cpr
cpr_at b place = cpr_by (word b) place

-- "Compressed Variable Values Record", up to its packed bytes
abbrev pub cvvr_by : (ℕ → ℕ → ℕ) → ℕ → Cvvr
cvvr_by read place = record {
  record_size = plain read place record_size;
  record_type = signed4 read place record_type;
  rfu_a = signed4 read place cvvr_rfu_a;
  c_size = signed8 read place cvvr_c_size;
}

abbrev pub cvvr_at : List ℕ → ℕ → Cvvr
cvvr_at b place = cvvr_by (word b) place

-- "Unused Internal Record" with its links
abbrev pub uir_by : (ℕ → ℕ → ℕ) → ℕ → Uir
uir_by read place = record {
  record_size = plain read place record_size;
  record_type = signed4 read place record_type;
  next_uir = plain read place uir_next_uir;
  prev_uir = plain read place uir_prev_uir;
}

abbrev pub uir_at : List ℕ → ℕ → Uir
uir_at b place = uir_by (word b) place
