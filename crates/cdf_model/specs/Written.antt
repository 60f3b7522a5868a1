-- How the words of a line may be written. Quoting says how a line is read; by a law the words that are read are those that are written.
use Rattle.std.specs.Prelude.{◌≡◌, ℕ, ◌+◌, ◌*◌, List, [], ◌∷◌, ◌++◌, Bool, true, false, not, ◌||◌, ◌==◌}
use Rattle.std.specs.Char.{is_ascii_hexdigit}
use Rattle.std.specs.List.{list_all}
use Rattle.cdf_model.specs.Quoting.{quote, backslash, is_separator, at_end, hex_value}

-- the ways to write a byte between quotes
pub data WritesByte : List ℕ → ℕ → Type 0 where
  Itself : (b : ℕ) → (b == quote) ≡ false → (b == backslash) ≡ false → WritesByte (b ∷ []) b
  AQuote : WritesByte (backslash ∷ quote ∷ []) quote
  ABackslash : WritesByte (backslash ∷ backslash ∷ []) backslash
  Digits : (high low : ℕ) → is_ascii_hexdigit high ≡ true → is_ascii_hexdigit low ≡ true → WritesByte (backslash ∷ 120 ∷ high ∷ low ∷ []) (16 * hex_value high + hex_value low)

-- bytes between quotes, one after the other
abbrev pub WritesBytes : List ℕ → List ℕ → Type 0
WritesBytes text [] = text ≡ []
WritesBytes text (b ∷ bytes) = (front : List ℕ) × (rest : List ℕ) × (text ≡ front ++ rest) × WritesByte front b × WritesBytes rest bytes

-- a byte of a bare word
abbrev pub is_bare : ℕ → Bool
is_bare b = not (is_separator b || (b == quote))

-- a word is bare, of one byte or more, or stands between quotes
pub data WritesWord : List ℕ → List ℕ → Type 0 where
  Bare : (b : ℕ) (word : List ℕ) → list_all is_bare (b ∷ word) ≡ true → WritesWord (b ∷ word) (b ∷ word)
  Quoted : (text bytes : List ℕ) → WritesBytes text bytes → WritesWord (quote ∷ text ++ quote ∷ []) bytes

-- Words, with separators between them, and as many as one likes before and after them.
abbrev pub WritesLine : List ℕ → List (List ℕ) → Type 0
WritesLine line [] = list_all is_separator line ≡ true
WritesLine line (word ∷ ws) = (gap : List ℕ) × (text : List ℕ) × (rest : List ℕ) × (line ≡ gap ++ (text ++ rest)) × (list_all is_separator gap ≡ true) × WritesWord text word × (at_end rest ≡ true) × WritesLine rest ws
