-- The rules of an image on its variables, phase 7 (CDF Internal Format Description, "Variable Descriptor Records", "Compressed Parameters Record").
use Rattle.std.specs.Prelude.{ℕ, ◌+◌, List, [], ◌∷◌, Bool, not, is_some, ◌&&◌, ◌||◌, ◌==◌, nat_le, if◌then◌else◌}
use Rattle.std.specs.List.{flat_map, list_all}
use Rattle.cdf_model.specs.Limits.{dimension_limit, record_number_limit}
use Rattle.cdf_model.specs.Place.{record_limit}
use Rattle.cdf_model.specs.Values.{notation_of}
use Rattle.cdf_model.specs.VariableSteps.{is_characters}
use Rattle.cdf_format.specs.Fields.{number, is_positive, size_at, holds}
use Rattle.cdf_format.specs.Records.{vdr_data_type, vdr_max_rec, vdr_s_records, vdr_num_elems, vdr_cpr_or_spr_offset, vdr_name, vdr_z_num_dims, vdr_z_dim_sizes, cpr_c_type, cpr_p_count, cpr_parameter, cpr_parameters}
use Rattle.cdf_format.specs.RecordTypes.{cpr_type}
use Rattle.cdf_format.specs.Rules.{Row, row, asked}
use Rattle.cdf_format.specs.Chains.{is_a}
use Rattle.cdf_format.specs.AttributeRules.{has_name, same_name}
use Rattle.cdf_format.specs.Shape.{is_compressed}
use Rattle.cdf_format.specs.Stored.{known_type}
use Rattle.cdf_format.specs.VariableFields.{is_z, dims_at, type_of_variable, value_bytes, record_bytes, has_pad, pad_field}

-- a value has an element, and several only where they are letters
abbrev pub has_elements : List ℕ → ℕ → Bool
has_elements b vdr = is_positive (number b vdr vdr_num_elems) && ((number b vdr vdr_num_elems == 1) || is_characters (notation_of (type_of_variable b vdr)))

-- a z variable has at most 10 dimensions, and room for their sizes, which are positive
abbrev pub has_dimensions : List ℕ → ℕ → Bool
has_dimensions b vdr =
    nat_le (number b vdr vdr_z_num_dims) dimension_limit
    && (holds b vdr (vdr_z_dim_sizes (number b vdr vdr_z_num_dims)) && list_all is_positive (dims_at b vdr))

-- where the fields of a VDR end, its pad value included
abbrev pub vdr_end : List ℕ → ℕ → ℕ
vdr_end b vdr = (pad_field b vdr).place + (if has_pad b vdr then value_bytes b vdr else 0)

abbrev pub is_max_rec : ℕ → Bool
is_max_rec n = nat_le n record_number_limit || (n == 0xffffffff)

abbrev pub cpr_link : List ℕ → ℕ → ℕ
cpr_link b vdr = number b vdr vdr_cpr_or_spr_offset

-- -1, and 0 too
abbrev pub is_no_link : ℕ → Bool
is_no_link link = (link == 0xffffffffffffffff) || (link == 0)

-- a CPR with a parameter or more, and room for them
abbrev pub is_cpr : List ℕ → List ℕ → ℕ → Bool
is_cpr b records place = is_a b records cpr_type place && (is_positive (number b place cpr_p_count) && holds b place (cpr_parameters (number b place cpr_p_count)))

-- run lengths of zeros
abbrev pub is_known_packing : List ℕ → ℕ → Bool
is_known_packing b cpr = (number b cpr cpr_c_type == 1) && (number b cpr (cpr_parameter 0) == 0)

abbrev pub cpr_rows : List ℕ → List ℕ → ℕ → List Row
cpr_rows b records cpr = asked (is_cpr b records cpr) (row 12 cpr (is_known_packing b cpr) ∷ [])

-- no other variable has its name
abbrev pub is_named_apart : List ℕ → List ℕ → ℕ → Bool
is_named_apart b vdrs vdr = list_all (λ other. (other == vdr) || not (same_name b vdr_name vdr other)) vdrs

-- a variable among these, in an image with these records
abbrev pub variable_rows : List ℕ → List ℕ → List ℕ → ℕ → List Row
variable_rows b records vdrs vdr =
    row 1 vdr (has_name b vdr vdr_name)
    ∷ row 2 vdr (is_named_apart b vdrs vdr)
    ∷ row 3 vdr (is_some (known_type b vdr vdr_data_type))
    ∷ row 4 vdr (has_elements b vdr)
    ∷ row 5 vdr (not (is_z b vdr) || has_dimensions b vdr)
    ∷ row 6 vdr (nat_le (vdr_end b vdr) (size_at b vdr))
    ∷ row 7 vdr (nat_le (record_bytes b vdr) record_limit)
    ∷ row 8 vdr (is_max_rec (number b vdr vdr_max_rec))
    ∷ row 9 vdr (nat_le (number b vdr vdr_s_records) 2)
    ∷ row 10 vdr (is_compressed b vdr || is_no_link (cpr_link b vdr))
    ∷ row 11 vdr (not (is_compressed b vdr) || is_cpr b records (cpr_link b vdr))
    ∷ asked (is_compressed b vdr) (cpr_rows b records (cpr_link b vdr))

-- these variables, in an image with these records
abbrev pub phase7 : List ℕ → List ℕ → List ℕ → List Row
phase7 b records vdrs = flat_map (variable_rows b records vdrs) vdrs
