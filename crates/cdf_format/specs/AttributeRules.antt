-- The rules of an image on its attributes and their entries, phase 6 (CDF Internal Format Description, "Attribute Descriptor Record", "Attribute Entry Descriptor Records").
use Rattle.std.specs.Prelude.{ℕ, ◌*◌, List, [], ◌∷◌, ◌++◌, length, Bool, not, is_some, bytes_eq, ◌&&◌, ◌==◌, nat_le}
use Rattle.std.specs.List.{flat_map}
use Rattle.cdf_model.specs.Limits.{record_number_limit}
use Rattle.cdf_model.specs.Place.{record_limit}
use Rattle.cdf_model.specs.Types.{size_of}
use Rattle.cdf_format.specs.Fields.{number, is_positive, name_in, holds}
use Rattle.cdf_format.specs.Records.{Field, adr_name, adr_scope, adr_num, adr_ngr_entries, adr_nz_entries, aedr_attr_num, aedr_data_type, aedr_num, aedr_num_elems, aedr_value}
use Rattle.cdf_format.specs.Rules.{Row, row}
use Rattle.cdf_format.specs.ChainRules.{chain_rows, count_rows, differ_rows}
use Rattle.cdf_format.specs.Shape.{gr_entry_chain, z_entry_chain}
use Rattle.cdf_format.specs.Stored.{known_type, data_type_in}

abbrev pub has_name : List ℕ → ℕ → Field → Bool
has_name b place name = not (length (name_in b place name) == 0)

-- two records with one name
abbrev pub same_name : List ℕ → Field → ℕ → ℕ → Bool
same_name b name place other = bytes_eq (name_in b place name) (name_in b other name)

-- the bytes of an entry's value
abbrev pub entry_bytes : List ℕ → ℕ → ℕ
entry_bytes b aedr = size_of (data_type_in b aedr aedr_data_type) * number b aedr aedr_num_elems

-- an entry has a value of a known type
abbrev pub has_value : List ℕ → ℕ → Bool
has_value b aedr = (is_some (known_type b aedr aedr_data_type) && is_positive (number b aedr aedr_num_elems)) && (nat_le (entry_bytes b aedr) record_limit && holds b aedr (aedr_value (entry_bytes b aedr)))

abbrev pub entry_rows : List ℕ → ℕ → ℕ → List Row
entry_rows b adr aedr =
    row 6 aedr (number b aedr aedr_attr_num == number b adr adr_num)
    ∷ row 7 aedr (nat_le (number b aedr aedr_num) record_number_limit)
    ∷ row 8 aedr (has_value b aedr)
    ∷ []

abbrev pub same_number : List ℕ → ℕ → ℕ → Bool
same_number b aedr other = number b aedr aedr_num == number b other aedr_num

-- the entries of one chain of an attribute, which has their count
abbrev pub entries_rows : List ℕ → ℕ → Field → List ℕ → List Row
entries_rows b adr count members = count_rows 5 b adr count members ++ flat_map (entry_rows b adr) members ++ differ_rows 7 (same_number b) [] members

-- an attribute but for its entries
abbrev pub adr_rows : List ℕ → ℕ → List Row
adr_rows b adr = row 1 adr (has_name b adr adr_name) ∷ row 3 adr (nat_le 1 (number b adr adr_scope) && nat_le (number b adr adr_scope) 4) ∷ []

-- an attribute and its entries, in an image with these records
abbrev pub attribute_rows : List ℕ → List ℕ → ℕ → List Row
attribute_rows b records adr =
    adr_rows b adr
    ++ chain_rows 4 (gr_entry_chain b records adr) (entries_rows b adr adr_ngr_entries)
    ++ chain_rows 4 (z_entry_chain b records adr) (entries_rows b adr adr_nz_entries)

-- these attributes
abbrev pub phase6 : List ℕ → List ℕ → List ℕ → List Row
phase6 b records adrs = flat_map (attribute_rows b records) adrs ++ differ_rows 2 (same_name b adr_name) [] adrs
