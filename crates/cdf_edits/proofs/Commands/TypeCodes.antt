-- The codes of the types of values, as they are stored.
use Rattle.cdf_edits.proofs.Common.{Byte, Char, DataType, Double, Epoch, Epoch16, Float, Int1, Int2, Int4, Int8, Real4, Real8, Some, TimeTt2000, UChar, UInt1, UInt2, UInt4, cast_signed, code_of, lit<, refl, type_of, w32, ◌<◌, ◌^◌, ◌≡◌}

-- a code means its type
pub type_back : (t : DataType) → type_of (cast_signed w32 (code_of t)) ≡ Some t
type_back Int1 = refl
type_back Int2 = refl
type_back Int4 = refl
type_back Int8 = refl
type_back UInt1 = refl
type_back UInt2 = refl
type_back UInt4 = refl
type_back Real4 = refl
type_back Real8 = refl
type_back Epoch = refl
type_back Epoch16 = refl
type_back TimeTt2000 = refl
type_back Byte = refl
type_back Float = refl
type_back Double = refl
type_back Char = refl
type_back UChar = refl

pub code_small : (t : DataType) → code_of t < 2 ^ 32
code_small t = by t
  where
    by : (t : DataType) → code_of t < 2 ^ 32
    by Int1 = lit< tt
    by Int2 = lit< tt
    by Int4 = lit< tt
    by Int8 = lit< tt
    by UInt1 = lit< tt
    by UInt2 = lit< tt
    by UInt4 = lit< tt
    by Real4 = lit< tt
    by Real8 = lit< tt
    by Epoch = lit< tt
    by Epoch16 = lit< tt
    by TimeTt2000 = lit< tt
    by Byte = lit< tt
    by Float = lit< tt
    by Double = lit< tt
    by Char = lit< tt
    by UChar = lit< tt
