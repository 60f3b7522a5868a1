-- Fields of a record that stand one after the other.
use Rattle.std.specs.Prelude.{ℕ, ◌+◌, List, [], ◌∷◌, Bool, ◌&&◌, ◌==◌}
use Rattle.cdf_format.specs.Records.{Field, record_size, record_type, cdr_gdr_offset, cdr_version, cdr_release, cdr_encoding, cdr_flags, cdr_rfu_a, cdr_rfu_b, cdr_increment, cdr_identifier, cdr_rfu_e, cdr_copyright, gdr_r_vdr_head, gdr_z_vdr_head, gdr_adr_head, gdr_eof, gdr_nr_vars, gdr_num_attr, gdr_r_max_rec, gdr_r_num_dims, gdr_nz_vars, gdr_uir_head, gdr_rfu_c, gdr_leap_second_last_updated, gdr_rfu_e, adr_adr_next, adr_agr_edr_head, adr_scope, adr_num, adr_ngr_entries, adr_max_gr_entry, adr_rfu_a, adr_az_edr_head, adr_nz_entries, adr_max_z_entry, adr_rfu_e, adr_name, aedr_aedr_next, aedr_attr_num, aedr_data_type, aedr_num, aedr_num_elems, aedr_num_strings, aedr_rfu_b, aedr_rfu_c, aedr_rfu_d, aedr_rfu_e, vdr_vdr_next, vdr_data_type, vdr_max_rec, vdr_vxr_head, vdr_vxr_tail, vdr_flags, vdr_s_records, vdr_rfu_b, vdr_rfu_c, vdr_rfu_f, vdr_num_elems, vdr_num, vdr_cpr_or_spr_offset, vdr_blocking_factor, vdr_name, vxr_vxr_next, vxr_n_entries, vxr_n_used_entries, cvvr_rfu_a, cvvr_c_size, cpr_c_type, cpr_rfu_a, cpr_p_count, uir_next_uir, uir_prev_uir}

-- from one place to another, with these widths
abbrev pub stand_in_order : ℕ → List Field → List ℕ → ℕ → Bool
stand_in_order from [] [] upto = from == upto
stand_in_order from (f ∷ fields) (width ∷ widths) upto = (f.place == from) && ((f.width == width) && stand_in_order (from + width) fields widths upto)
stand_in_order from fields widths upto = 0 == 1

abbrev pub head_fields : List Field
head_fields = record_size ∷ record_type ∷ []

abbrev pub cdr_fields : List Field
cdr_fields = cdr_gdr_offset ∷ cdr_version ∷ cdr_release ∷ cdr_encoding ∷ cdr_flags ∷ cdr_rfu_a ∷ cdr_rfu_b ∷ cdr_increment ∷ cdr_identifier ∷ cdr_rfu_e ∷ cdr_copyright ∷ []

abbrev pub gdr_fields : List Field
gdr_fields =
    gdr_r_vdr_head ∷ gdr_z_vdr_head ∷ gdr_adr_head ∷ gdr_eof ∷ gdr_nr_vars ∷ gdr_num_attr ∷ gdr_r_max_rec ∷ gdr_r_num_dims ∷ gdr_nz_vars ∷ gdr_uir_head ∷ gdr_rfu_c ∷ gdr_leap_second_last_updated ∷ gdr_rfu_e ∷ []

abbrev pub adr_fields : List Field
adr_fields = adr_adr_next ∷ adr_agr_edr_head ∷ adr_scope ∷ adr_num ∷ adr_ngr_entries ∷ adr_max_gr_entry ∷ adr_rfu_a ∷ adr_az_edr_head ∷ adr_nz_entries ∷ adr_max_z_entry ∷ adr_rfu_e ∷ adr_name ∷ []

abbrev pub aedr_fields : List Field
aedr_fields = aedr_aedr_next ∷ aedr_attr_num ∷ aedr_data_type ∷ aedr_num ∷ aedr_num_elems ∷ aedr_num_strings ∷ aedr_rfu_b ∷ aedr_rfu_c ∷ aedr_rfu_d ∷ aedr_rfu_e ∷ []

abbrev pub vdr_fields : List Field
vdr_fields =
    vdr_vdr_next ∷ vdr_data_type ∷ vdr_max_rec ∷ vdr_vxr_head ∷ vdr_vxr_tail ∷ vdr_flags ∷ vdr_s_records ∷ vdr_rfu_b ∷ vdr_rfu_c ∷ vdr_rfu_f ∷ vdr_num_elems ∷ vdr_num ∷ vdr_cpr_or_spr_offset ∷ vdr_blocking_factor ∷ vdr_name ∷ []

abbrev pub vxr_fields : List Field
vxr_fields = vxr_vxr_next ∷ vxr_n_entries ∷ vxr_n_used_entries ∷ []

abbrev pub cvvr_fields : List Field
cvvr_fields = cvvr_rfu_a ∷ cvvr_c_size ∷ []

abbrev pub cpr_fields : List Field
cpr_fields = cpr_c_type ∷ cpr_rfu_a ∷ cpr_p_count ∷ []

abbrev pub uir_fields : List Field
uir_fields = uir_next_uir ∷ uir_prev_uir ∷ []
