-- The image of a file, and the checksum that may stand after it (CDF Internal Format Description, CDF Descriptor Record, Flags).
use Rattle.std.specs.Prelude.{ℕ, ◌-◌, List, [], ◌++◌, length, take, Bool, if◌then◌else◌}
use Rattle.md5.specs.Md5.{md5}
use Rattle.cdf_format.specs.Fields.{flags, has_bit}
use Rattle.cdf_format.specs.Records.{cdr_checksum_bit}

-- a checksum is in use
abbrev pub has_checksum : List ℕ → Bool
has_checksum b = has_bit (flags b) cdr_checksum_bit

-- the bytes that stand after an image
abbrev pub trailer : List ℕ → List ℕ
trailer b = if has_checksum b then md5 b else []

-- the bytes of an MD5
abbrev pub trailer_size : ℕ
trailer_size = 16

abbrev pub trailer_length : List ℕ → ℕ
trailer_length f = if has_checksum f then trailer_size else 0

-- an image as it is saved
abbrev pub sealed : List ℕ → List ℕ
sealed b = b ++ trailer b

-- a file without its trailer
abbrev pub image_of : List ℕ → List ℕ
image_of f = take (length f - trailer_length f) f
