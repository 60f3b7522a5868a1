-- The limits of what is read and written (own, but for the 10 dimensions and the numbers of 4 bytes of the CDF Internal Format Description).
use Rattle.std.specs.Prelude.{ℕ}

-- the most bytes of an image
abbrev pub image_limit : ℕ
image_limit = 1073741824

-- the most bytes of a script
abbrev pub script_limit : ℕ
script_limit = 1073741824

-- the most bytes of a line of it
abbrev pub line_limit : ℕ
line_limit = 16777216

-- the greatest number of a record, or of an entry of an attribute
abbrev pub record_number_limit : ℕ
record_number_limit = 2147483646

-- the greatest number of 32 bits with a sign
abbrev pub signed_limit : ℕ
signed_limit = 2147483647

-- the most dimensions
abbrev pub dimension_limit : ℕ
dimension_limit = 10

-- the most levels of nodes of an index
abbrev pub level_limit : ℕ
level_limit = 8
