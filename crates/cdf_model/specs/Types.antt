-- The types of values (CDF Internal Format Description, Variable Descriptor Records, DataType).
use Rattle.std.specs.Prelude.{ℕ, ℤ, pos, negsuc, List, [], ◌∷◌, ◌==◌, codes, find, None}
use Rattle.std.specs.declared.option.Option.{Option}
use Rattle.cdf_model.specs.declared.data_type.DataType.{DataType}
use Rattle.cdf_model.specs.declared.data_type.DataType.TheVariants.{Int1, Int2, Int4, Int8, UInt1, UInt2, UInt4, Real4, Real8, Epoch, Epoch16, TimeTt2000, Byte, Float, Double, Char, UChar}

abbrev pub data_types : List DataType
data_types = Int1 ∷ Int2 ∷ Int4 ∷ Int8 ∷ UInt1 ∷ UInt2 ∷ UInt4 ∷ Real4 ∷ Real8 ∷ Epoch ∷ Epoch16 ∷ TimeTt2000 ∷ Byte ∷ Float ∷ Double ∷ Char ∷ UChar ∷ []

-- the code of a type, as a file has it
abbrev pub code_of : DataType → ℕ
code_of Int1 = 1
code_of Int2 = 2
code_of Int4 = 4
code_of Int8 = 8
code_of UInt1 = 11
code_of UInt2 = 12
code_of UInt4 = 14
code_of Real4 = 21
code_of Real8 = 22
code_of Epoch = 31
code_of Epoch16 = 32
code_of TimeTt2000 = 33
code_of Byte = 41
code_of Float = 44
code_of Double = 45
code_of Char = 51
code_of UChar = 52

-- the number of bytes of an element
abbrev pub size_of : DataType → ℕ
size_of Int1 = 1
size_of Int2 = 2
size_of Int4 = 4
size_of Int8 = 8
size_of UInt1 = 1
size_of UInt2 = 2
size_of UInt4 = 4
size_of Real4 = 4
size_of Real8 = 8
size_of Epoch = 8
size_of Epoch16 = 16
size_of TimeTt2000 = 8
size_of Byte = 1
size_of Float = 4
size_of Double = 8
size_of Char = 1
size_of UChar = 1

-- the type of a code, and none where no type has it
abbrev pub type_of : ℤ → Option DataType
type_of (pos code) = find (λ t. code_of t == code) data_types
type_of (negsuc n) = None

-- the name of a type in scripts and replies
abbrev pub name_of : DataType → List ℕ
name_of Int1 = codes "INT1"
name_of Int2 = codes "INT2"
name_of Int4 = codes "INT4"
name_of Int8 = codes "INT8"
name_of UInt1 = codes "UINT1"
name_of UInt2 = codes "UINT2"
name_of UInt4 = codes "UINT4"
name_of Real4 = codes "REAL4"
name_of Real8 = codes "REAL8"
name_of Epoch = codes "EPOCH"
name_of Epoch16 = codes "EPOCH16"
name_of TimeTt2000 = codes "TIME_TT2000"
name_of Byte = codes "BYTE"
name_of Float = codes "FLOAT"
name_of Double = codes "DOUBLE"
name_of Char = codes "CHAR"
name_of UChar = codes "UCHAR"
