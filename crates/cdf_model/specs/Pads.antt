-- The value that stands where none was written (CDF User's Guide, Variables: default pad values).
use Rattle.std.specs.Prelude.{ℕ, List, ◌∷◌, [], replicate}
use Rattle.std.specs.List.{repeat}
use Rattle.cdf_model.specs.declared.data_type.DataType.{DataType}
use Rattle.cdf_model.specs.declared.data_type.DataType.TheVariants.{Int1, Int2, Int4, Int8, UInt1, UInt2, UInt4, Real4, Real8, Epoch, Epoch16, TimeTt2000, Byte, Float, Double, Char, UChar}

-- an element in network order: the least number but one of a signed type, the greatest but one of an unsigned type, -1.0E30 of a
-- floating type, the zero date, or a blank
abbrev pub default_element : DataType → List ℕ
default_element Int1 = 0x81 ∷ []
default_element Int2 = 0x80 ∷ 0x01 ∷ []
default_element Int4 = 0x80 ∷ 0x00 ∷ 0x00 ∷ 0x01 ∷ []
default_element Int8 = 0x80 ∷ 0x00 ∷ 0x00 ∷ 0x00 ∷ 0x00 ∷ 0x00 ∷ 0x00 ∷ 0x01 ∷ []
default_element UInt1 = 0xfe ∷ []
default_element UInt2 = 0xff ∷ 0xfe ∷ []
default_element UInt4 = 0xff ∷ 0xff ∷ 0xff ∷ 0xfe ∷ []
default_element Real4 = 0xf1 ∷ 0x49 ∷ 0xf2 ∷ 0xca ∷ []
default_element Real8 = 0xc6 ∷ 0x29 ∷ 0x3e ∷ 0x59 ∷ 0x39 ∷ 0xa0 ∷ 0x8c ∷ 0xea ∷ []
default_element Epoch = replicate 8 0
default_element Epoch16 = replicate 16 0
default_element TimeTt2000 = 0x80 ∷ 0x00 ∷ 0x00 ∷ 0x00 ∷ 0x00 ∷ 0x00 ∷ 0x00 ∷ 0x01 ∷ []
default_element Byte = 0x81 ∷ []
default_element Float = 0xf1 ∷ 0x49 ∷ 0xf2 ∷ 0xca ∷ []
default_element Double = 0xc6 ∷ 0x29 ∷ 0x3e ∷ 0x59 ∷ 0x39 ∷ 0xa0 ∷ 0x8c ∷ 0xea ∷ []
default_element Char = 32 ∷ []
default_element UChar = 32 ∷ []

-- a value of so many elements
abbrev pub default_value : DataType → ℕ → List ℕ
default_value t elems = repeat elems (default_element t)
