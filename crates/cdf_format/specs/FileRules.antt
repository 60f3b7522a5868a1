-- The rules of a file on its length, its magic numbers, and the two records that each file has, phases 0 to 3 (CDF Internal Format Description, Magic Numbers, CDF Descriptor Record, Global Descriptor Record).
use Rattle.std.specs.Prelude.{ℕ, ◌+◌, ◌-◌, List, [], ◌∷◌, length, Bool, not, is_some, ◌&&◌, ◌||◌, ◌==◌, nat_le}
use Rattle.std.specs.List.{list_all}
use Rattle.cdf_model.specs.Limits.{dimension_limit, image_limit}
use Rattle.cdf_model.specs.Encodings.{encoding_at}
use Rattle.cdf_format.specs.Fields.{word, number, integer8, counted, is_positive, has_bit, size_at, type_at, gdr_offset, version, encoding, flags, eof, r_num_dims, r_sizes}
use Rattle.cdf_format.specs.Records.{past, cdr_place, magic_version_3, magic_uncompressed, cdr_single_file_bit, cdr_md5_bit, gdr_eof, gdr_r_num_dims, gdr_r_dim_sizes}
use Rattle.cdf_format.specs.RecordTypes.{cdr_type, gdr_type, fixed_size}
use Rattle.cdf_format.specs.Rules.{Row, row, asked}
use Rattle.cdf_format.specs.Sealed.{has_checksum, trailer_length, trailer_size}

-- the length of the file: the bytes of the magic numbers, and the longest image with its trailer
abbrev pub phase0 : List ℕ → List Row
phase0 f = row 1 0 (nat_le cdr_place (length f)) ∷ row 2 0 (nat_le (length f) (image_limit + trailer_size)) ∷ []

-- the magic numbers: version 3, not compressed as a whole
abbrev pub phase1 : List ℕ → List Row
phase1 f = row 1 0 (word f 0 4 == magic_version_3) ∷ row 2 4 (word f 4 4 == magic_uncompressed) ∷ []

-- the record at a place has this type, at least this size, and ends within the file
abbrev pub is_record : List ℕ → ℕ → ℕ → ℕ → Bool
is_record f place type size = (type_at f place == type) && (nat_le size (size_at f place) && nat_le (place + size_at f place) (length f))

-- the CDF Descriptor Record: version 3, an encoding that is read, single-file, and if a checksum is in use, it is MD5
abbrev pub phase2 : List ℕ → List Row
phase2 f =
    row 1 cdr_place (nat_le (cdr_place + fixed_size cdr_type) (length f))
    ∷ row 2 cdr_place (is_record f cdr_place cdr_type (fixed_size cdr_type))
    ∷ row 3 cdr_place (version f == 3)
    ∷ row 4 cdr_place (is_some (encoding_at (encoding f)))
    ∷ row 5 cdr_place (has_bit (flags f) cdr_single_file_bit)
    ∷ row 6 cdr_place (not (has_checksum f) || has_bit (flags f) cdr_md5_bit)
    ∷ []

-- GDRoffset leaves room for the fixed part of a record
abbrev pub has_gdr : List ℕ → Bool
has_gdr f = nat_le cdr_place (gdr_offset f) && nat_le (gdr_offset f + fixed_size gdr_type) (length f)

-- a record of this type, with at most 10 dimensions and room for their sizes
abbrev pub is_gdr : List ℕ → ℕ → Bool
is_gdr f g = nat_le (number f g gdr_r_num_dims) dimension_limit && is_record f g gdr_type (past (gdr_r_dim_sizes (r_num_dims f g)))

-- the Global Descriptor Record at a place
abbrev pub gdr_rows : List ℕ → ℕ → List Row
gdr_rows f g =
    row 2 g (is_gdr f g)
    ∷ row 3 g (list_all is_positive (r_sizes f g))
    ∷ row 4 g (eof f g == length f - trailer_length f)
    ∷ row 5 g (nat_le (counted (integer8 f g gdr_eof)) image_limit)
    ∷ []

abbrev pub phase3 : List ℕ → List Row
phase3 f = row 1 cdr_place (has_gdr f) ∷ asked (has_gdr f) (gdr_rows f (gdr_offset f))
