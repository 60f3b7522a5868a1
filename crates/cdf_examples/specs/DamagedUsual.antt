-- Changes of the usual file, one at a time, with the rule that each breaks. Its records stand as in `Usual`.
use Rattle.std.specs.Prelude.{List, [], ◌∷◌, codes}
use Rattle.cdf_format.specs.Records.{Field, field, record_size, record_type, cdr_gdr_offset, cdr_version, cdr_encoding, cdr_flags, gdr_adr_head, gdr_eof, gdr_num_attr, gdr_nz_vars, gdr_uir_head, adr_adr_next, adr_agr_edr_head, adr_scope, adr_num, adr_ngr_entries, adr_name, aedr_attr_num, aedr_num, aedr_num_elems, vdr_vdr_next, vdr_data_type, vdr_max_rec, vdr_vxr_head, vdr_flags, vdr_s_records, vdr_num_elems, vdr_num, vdr_cpr_or_spr_offset, vdr_name, vdr_z_dim_size, vxr_vxr_next, vxr_n_used_entries, vxr_first, vxr_last, vxr_offset}
use Rattle.cdf_examples.specs.Building.{minus4, minus8}
use Rattle.cdf_examples.specs.Damage.{Change, Number, Name, Verdict, verdict}

-- the two magic numbers, and the first byte of a Name
abbrev pub first_magic : Field
first_magic = field 0 4

abbrev pub first_of_adr_name : Field
first_of_adr_name = field 68 1

-- the first bytes, the CDR and the GDR
abbrev pub damaged_heads : List (Change × Verdict)
damaged_heads =
    (Number 0 first_magic 0xcdf26002, verdict 1 1 0)
    ∷ (Number 8 record_size 311, verdict 2 2 8)
    ∷ (Number 8 record_type 2, verdict 2 2 8)
    ∷ (Number 8 cdr_version 2, verdict 2 3 8)
    ∷ (Number 8 cdr_encoding 3, verdict 2 4 8)
    ∷ (Number 8 cdr_flags 7, verdict 2 6 8)
    ∷ (Number 8 cdr_gdr_offset 2800, verdict 3 1 8)
    ∷ (Number 320 record_size minus8, verdict 3 2 320)
    ∷ (Number 320 gdr_eof 2785, verdict 3 4 320)
    ∷ []

-- sizes and types of records, and links between them
abbrev pub damaged_chains : List (Change × Verdict)
damaged_chains =
    (Number 2728 record_size 59, verdict 4 1 2728)
    ∷ (Number 1280 record_type 14, verdict 4 2 1280)
    ∷ (Number 1280 record_type 1, verdict 4 3 1280)
    ∷ (Number 320 gdr_adr_head 412, verdict 5 2 320)
    ∷ (Number 2404 adr_adr_next 404, verdict 5 2 2404)
    ∷ (Number 320 gdr_num_attr 3, verdict 5 3 320)
    ∷ (Number 2404 adr_num 2, verdict 5 4 2404)
    ∷ (Number 788 vdr_vdr_next 1280, verdict 5 8 788)
    ∷ (Number 1336 vdr_vdr_next 1840, verdict 5 8 1336)
    ∷ (Number 320 gdr_nz_vars 2, verdict 5 9 320)
    ∷ (Number 1888 vdr_num 3, verdict 5 10 1888)
    ∷ (Number 320 gdr_uir_head 1280, verdict 5 11 320)
    ∷ []

-- attributes and entries
abbrev pub damaged_attributes : List (Change × Verdict)
damaged_attributes =
    (Number 2404 first_of_adr_name 0, verdict 6 1 2404)
    ∷ (Name 2404 adr_name (codes "Project"), verdict 6 2 2404)
    ∷ (Number 404 adr_scope 5, verdict 6 3 404)
    ∷ (Number 404 adr_agr_edr_head 2728, verdict 6 4 404)
    ∷ (Number 404 adr_ngr_entries 2, verdict 6 5 404)
    ∷ (Number 2728 aedr_attr_num 0, verdict 6 6 2728)
    ∷ (Number 728 aedr_num minus4, verdict 6 7 728)
    ∷ (Number 728 aedr_num_elems 5, verdict 6 8 728)
    ∷ []

-- variables
abbrev pub damaged_variables : List (Change × Verdict)
damaged_variables =
    (Name 1888 vdr_name (codes "Epoch"), verdict 7 2 788)
    ∷ (Name 1888 vdr_name (codes "Epoch"), verdict 7 2 1888)
    ∷ (Number 1336 vdr_data_type 3, verdict 7 3 1336)
    ∷ (Number 1336 vdr_num_elems 2, verdict 7 4 1336)
    ∷ (Number 1336 (vdr_z_dim_size 0) 0, verdict 7 5 1336)
    ∷ (Number 1336 vdr_flags 3, verdict 7 6 1336)
    ∷ (Number 1336 (vdr_z_dim_size 0) 16777217, verdict 7 7 1336)
    ∷ (Number 788 vdr_max_rec 2147483647, verdict 7 8 788)
    ∷ (Number 788 vdr_s_records 3, verdict 7 9 788)
    ∷ (Number 1336 vdr_cpr_or_spr_offset 728, verdict 7 10 1336)
    ∷ (Number 1336 vdr_flags 5, verdict 7 11 1336)
    ∷ []

-- indexes and blocks
abbrev pub damaged_indexes : List (Change × Verdict)
damaged_indexes =
    (Number 1140 vxr_vxr_next 1140, verdict 8 1 1140)
    ∷ (Number 1140 vxr_n_used_entries minus4, verdict 8 2 1140)
    ∷ (Number 1140 (vxr_offset 7 0) 404, verdict 8 3 1140)
    ∷ (Number 1140 (vxr_first 0) 2, verdict 8 4 1140)
    ∷ (Number 1140 (vxr_last 7 1) 4, verdict 8 5 1308)
    ∷ []

-- two variables have one index, and the other index has no owner
abbrev pub damaged_owners : List (Change × Verdict)
damaged_owners =
    (Number 1336 vdr_vxr_head 2240, verdict 9 1 1688)
    ∷ (Number 1336 vdr_vxr_head 2240, verdict 9 1 1828)
    ∷ (Number 1336 vdr_vxr_head 2240, verdict 9 1 2240)
    ∷ (Number 1336 vdr_vxr_head 2240, verdict 9 1 2380)
    ∷ []
