-- The new file: the CDR and the GDR of a data set without attributes and variables (CDF Internal Format Description, Magic Numbers, CDF Descriptor Record, Global Descriptor Record).
use Rattle.std.specs.Prelude.{ℕ, ◌+◌, List, [], ◌∷◌, ◌++◌, replicate, codes}
use Rattle.std.specs.List.{flat_map}
use Rattle.byteorder.specs.Endian.{big_bytes}
use Rattle.cdf_format.specs.Records.{cdr_place, magic_version_3, magic_uncompressed}
use Rattle.cdf_format.specs.RecordTypes.{fixed_size, cdr_type, gdr_type}

-- numbers of so many bytes each
abbrev pub of_4_bytes : List ℕ → List ℕ
of_4_bytes numbers = flat_map (big_bytes 4) numbers

abbrev pub of_8_bytes : List ℕ → List ℕ
of_8_bytes numbers = flat_map (big_bytes 8) numbers

-- the number -1 in 4 bytes
abbrev pub minus_one : ℕ
minus_one = 0xffffffff

abbrev pub magic : List ℕ
magic = of_4_bytes (magic_version_3 ∷ magic_uncompressed ∷ [])

-- 256 bytes: a short text between newlines, then bytes 0
abbrev pub copyright : List ℕ
copyright = 10 ∷ codes "Common Data Format (CDF)" ++ 10 ∷ replicate 230 0

-- RecordSize; RecordType; GDRoffset; Version 3, Release 9, Encoding 6, Flags 3, rfuA, rfuB, Increment, Identifier 2, rfuE; Copyright
abbrev pub new_cdr : List ℕ
new_cdr = of_8_bytes (312 ∷ []) ++ of_4_bytes (1 ∷ []) ++ of_8_bytes (320 ∷ []) ++ of_4_bytes (3 ∷ 9 ∷ 6 ∷ 3 ∷ 0 ∷ 0 ∷ 0 ∷ 2 ∷ minus_one ∷ []) ++ copyright

-- RecordSize; RecordType; rVDRhead, zVDRhead, ADRhead, eof; NrVars, NumAttr, rMaxRec, rNumDims, NzVars; UIRhead; rfuC, LeapSecondLastUpdated, rfuE
abbrev pub new_gdr : List ℕ
new_gdr =
    of_8_bytes (84 ∷ []) ++ of_4_bytes (2 ∷ []) ++ of_8_bytes (0 ∷ 0 ∷ 0 ∷ 404 ∷ []) ++ of_4_bytes (0 ∷ 0 ∷ minus_one ∷ 0 ∷ 0 ∷ []) ++ of_8_bytes (0 ∷ []) ++ of_4_bytes (0 ∷ minus_one ∷ minus_one ∷ [])

-- its bytes: the magic numbers and both records
abbrev pub new_size : ℕ
new_size = cdr_place + fixed_size cdr_type + fixed_size gdr_type

unfoldable pub new_image : List ℕ
new_image = magic ++ new_cdr ++ new_gdr
