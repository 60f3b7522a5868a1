-- How values are written in scripts and replies (own). The bytes of a value are in network order.
use Rattle.std.specs.Prelude.{ℕ, ℤ, pos, ◌+◌, ◌-◌, ◌-ℤ◌, ◌*◌, ◌^◌, ◌/◌, ◌%◌, List, [], ◌∷◌, ◌++◌, map, length, not, ◌&&◌, ◌||◌, ◌==◌, nat_lt, nat_le, if◌then◌else◌, position, Some, None, Ok, Err}
use Rattle.std.specs.declared.option.Option.{Option}
use Rattle.std.specs.declared.result.Result.{Result}
use Rattle.std.specs.Char.{is_ascii_hexdigit}
use Rattle.std.specs.Fmt.{decimal, signed_decimal}
use Rattle.std.specs.Int.{bytes_high_first}
use Rattle.std.specs.List.{flat_map, fold, join_with_byte, list_all}
use Rattle.std.specs.Option.{is_none, option_to_list}
use Rattle.cdf_model.specs.declared.answer.Reason.{Reason}
use Rattle.cdf_model.specs.declared.answer.Reason.TheVariants.{WrongCount, BadValue}
use Rattle.cdf_model.specs.declared.data_type.DataType.{DataType}
use Rattle.cdf_model.specs.declared.data_type.DataType.TheVariants.{Int1, Int2, Int4, Int8, UInt1, UInt2, UInt4, Real4, Real8, Epoch, Epoch16, TimeTt2000, Byte, Float, Double, Char, UChar}
use Rattle.cdf_model.specs.Arguments.{is_plain_number, value}
use Rattle.cdf_model.specs.ByteOrder.{parts}
use Rattle.cdf_model.specs.Quoting.{quote, backslash, hex_value}
use Rattle.cdf_model.specs.Types.{size_of}

-- how the elements of a type are written: as a decimal number with or without a sign, as hexadecimal digits, or as characters
pub data Notation : Type 0 where
  Signed : Notation
  Unsigned : Notation
  Hexadecimal : Notation
  Characters : Notation

abbrev pub notation_of : DataType → Notation
notation_of Int1 = Signed
notation_of Int2 = Signed
notation_of Int4 = Signed
notation_of Int8 = Signed
notation_of TimeTt2000 = Signed
notation_of Byte = Signed
notation_of UInt1 = Unsigned
notation_of UInt2 = Unsigned
notation_of UInt4 = Unsigned
notation_of Real4 = Hexadecimal
notation_of Real8 = Hexadecimal
notation_of Epoch = Hexadecimal
notation_of Epoch16 = Hexadecimal
notation_of Float = Hexadecimal
notation_of Double = Hexadecimal
notation_of Char = Characters
notation_of UChar = Characters

-- how many bytes one printed value has: those of an element, or all of a CHAR or UCHAR value
abbrev pub text_size : DataType → ℕ → ℕ
text_size Char elems = elems
text_size UChar elems = elems
text_size t elems = size_of t

-- the number in bytes, the highest first, without and with a sign
abbrev pub number_of : List ℕ → ℕ
number_of bytes = fold (λ n b. 256 * n + b) 0 bytes

abbrev pub signed_of : List ℕ → ℤ
signed_of bytes = if nat_lt (number_of bytes) (2 ^ (8 * length bytes - 1)) then pos (number_of bytes) else pos (number_of bytes) -ℤ pos (2 ^ (8 * length bytes))

abbrev pub hex_digit : ℕ → ℕ
hex_digit d = if nat_lt d 10 then 48 + d else 87 + d

-- two lower-case digits for each byte
abbrev pub hex_text : List ℕ → List ℕ
hex_text bytes = flat_map (λ b. hex_digit (b / 16) ∷ hex_digit (b % 16) ∷ []) bytes

-- a byte between quotes
abbrev pub quoted_byte : ℕ → List ℕ
quoted_byte b = if (b == quote) || (b == backslash) then backslash ∷ b ∷ [] else (if nat_le 32 b && nat_lt b 127 then b ∷ [] else backslash ∷ 120 ∷ hex_text (b ∷ []))

abbrev pub quoted : List ℕ → List ℕ
quoted bytes = quote ∷ flat_map quoted_byte bytes ++ quote ∷ []

abbrev pub text_by : Notation → List ℕ → List ℕ
text_by Signed bytes = signed_decimal (signed_of bytes)
text_by Unsigned bytes = decimal (number_of bytes)
text_by Hexadecimal bytes = hex_text bytes
text_by Characters bytes = quoted bytes

-- the texts of values of so many elements each, joined by one space
abbrev pub values_text : DataType → ℕ → List ℕ → List ℕ
values_text t elems bytes = join_with_byte 32 (map (text_by (notation_of t)) (parts (text_size t elems) (length bytes / text_size t elems) bytes))

-- a decimal number
abbrev pub unsigned_in : ℕ → List ℕ → Option (List ℕ)
unsigned_in n word = if is_plain_number word && nat_lt (value word) (2 ^ (8 * n)) then Some (bytes_high_first n (value word)) else None

abbrev pub positive_in : ℕ → List ℕ → Option (List ℕ)
positive_in n word = if is_plain_number word && nat_lt (value word) (2 ^ (8 * n - 1)) then Some (bytes_high_first n (value word)) else None

abbrev pub negative_in : ℕ → List ℕ → Option (List ℕ)
negative_in n word = if (is_plain_number word && not (value word == 0)) && nat_le (value word) (2 ^ (8 * n - 1)) then Some (bytes_high_first n (2 ^ (8 * n) - value word)) else None

-- a decimal number, with `-` where negative
abbrev pub signed_in : ℕ → List ℕ → Option (List ℕ)
signed_in n [] = None
signed_in n (b ∷ word) = if b == 45 then negative_in n word else positive_in n (b ∷ word)

-- the bytes of pairs of digits
abbrev pub hex_bytes : List ℕ → List ℕ
hex_bytes (b ∷ c ∷ word) = (16 * hex_value b + hex_value c) ∷ hex_bytes word
hex_bytes word = []

-- two hexadecimal digits for each byte, in either case
abbrev pub digits_in : ℕ → List ℕ → Option (List ℕ)
digits_in n word = if (length word == 2 * n) && list_all is_ascii_hexdigit word then Some (hex_bytes word) else None

abbrev pub characters_in : ℕ → List ℕ → Option (List ℕ)
characters_in n word = if length word == n then Some word else None

abbrev pub bytes_by : Notation → ℕ → List ℕ → Option (List ℕ)
bytes_by Signed n word = signed_in n word
bytes_by Unsigned n word = unsigned_in n word
bytes_by Hexadecimal n word = digits_in n word
bytes_by Characters n word = characters_in n word

-- the bytes that a word writes, and none where it breaks the type's notation
abbrev pub bytes_in : DataType → ℕ → List ℕ → Option (List ℕ)
bytes_in t elems word = bytes_by (notation_of t) (text_size t elems) word

-- the bytes of all words, the first word that breaks the notation being told
abbrev pub bytes_of_words : DataType → ℕ → List (List ℕ) → Result (List ℕ) Reason
bytes_of_words t elems words = elim (position (λ word. is_none (bytes_in t elems word)) words) [
  | None ↦ Ok (flat_map (λ word. flat_map (λ bytes. bytes) (option_to_list (bytes_in t elems word))) words)
  | Some i ↦ Err (BadValue i)
]

-- the bytes of as many words as are wanted
abbrev pub values_in : DataType → ℕ → ℕ → List (List ℕ) → Result (List ℕ) Reason
values_in t elems wanted words = if length words == wanted then bytes_of_words t elems words else Err (WrongCount (length words) wanted)
