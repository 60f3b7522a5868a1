-- The words of a line of a script. Words are separated by spaces and tabs, and a word may stand between quotes, so that it can have any bytes (own).
use Rattle.std.specs.Prelude.{ℕ, zero, suc, ◌+◌, ◌-◌, ◌*◌, List, [], ◌∷◌, length, take, drop, Bool, true, not, ◌&&◌, ◌||◌, ◌==◌, nat_lt, if◌then◌else◌, Some, None, Ok, Err}
use Rattle.std.specs.declared.option.Option.{Option}
use Rattle.std.specs.declared.result.Result.{Result}
use Rattle.std.specs.Char.{is_ascii_hexdigit}
use Rattle.std.specs.List.{position_or_len}
use Rattle.std.specs.Option.{option_map}
use Rattle.cdf_model.specs.declared.answer.LineError.{LineError}
use Rattle.cdf_model.specs.declared.answer.LineError.TheVariants.{BadQuote, BadHex}

-- a word, and where its first byte stands in the line, an opening quote included
pub record Word : Type 0 where
  pub place : ℕ
  pub bytes : List ℕ

abbrev pub quote : ℕ
quote = 34

abbrev pub backslash : ℕ
backslash = 92

-- a space or a tab
abbrev pub is_separator : ℕ → Bool
is_separator b = (b == 32) || (b == 9)

-- the line ends, or a separator comes
abbrev pub at_end : List ℕ → Bool
at_end [] = true
at_end (b ∷ text) = is_separator b

-- the value of a hexadecimal digit, in either case
abbrev pub hex_value : ℕ → ℕ
hex_value b = if nat_lt b 58 then b - 48 else (if nat_lt b 71 then b - 55 else b - 87)

-- a byte in front of those of a word that is read
abbrev pub with_byte : ℕ → Result (List ℕ) LineError → Result (List ℕ) LineError
with_byte b (Ok bytes) = Ok (b ∷ bytes)
with_byte b (Err fault) = Err fault

-- How many bytes stand before the closing quote. A backslash and the byte after it are passed over together.
abbrev mutual
  pub before_quote : List ℕ → Option ℕ
  before_quote [] = None
  before_quote (b ∷ text) = if b == quote then Some 0 else (if b == backslash then option_map (λ n. n + 1) (after_backslash text) else option_map (λ n. n + 1) (before_quote text))

  pub after_backslash : List ℕ → Option ℕ
  after_backslash [] = None
  after_backslash (b ∷ text) = option_map (λ n. n + 1) (before_quote text)

-- What the bytes between two quotes mean: `\"`, `\\` and `\x` with two digits stand for one byte, each other byte for itself.
-- The first backslash that begins none of these is a fault. The place is where the text stands in the line.
abbrev mutual
  pub meaning : ℕ → List ℕ → Result (List ℕ) LineError
  meaning place [] = Ok []
  meaning place (b ∷ text) = if b == backslash then escaped place text else with_byte b (meaning (place + 1) text)

  -- behind a backslash, which stands at the place
  pub escaped : ℕ → List ℕ → Result (List ℕ) LineError
  escaped place [] = Err (BadQuote place)
  escaped place (b ∷ text) = if b == 120 then digits place text else (if (b == quote) || (b == backslash) then with_byte b (meaning (place + 2) text) else Err (BadQuote place))

  -- behind `\x`
  pub digits : ℕ → List ℕ → Result (List ℕ) LineError
  digits place (b ∷ c ∷ text) = if is_ascii_hexdigit b && is_ascii_hexdigit c then with_byte (16 * hex_value b + hex_value c) (meaning (place + 4) text) else Err (BadHex place)
  digits place text = Err (BadHex place)

-- what a text begins with: no word, a word and how many bytes were read, or a fault
pub data First : Type 0 where
  NoWord : First
  AWord : Word → ℕ → First
  Fault : LineError → First

-- a bare word of n bytes
abbrev pub bare_word : ℕ → List ℕ → ℕ → First
bare_word place text n = if at_end (drop n text) then AWord (record { place = place; bytes = take n text }) n else Fault (BadQuote (place + n))

-- a word between quotes that is closed after n bytes
abbrev pub closed_word : ℕ → List ℕ → ℕ → Result (List ℕ) LineError → First
closed_word place text n (Ok bytes) = if at_end (drop (n + 1) text) then AWord (record { place = place; bytes = bytes }) (n + 2) else Fault (BadQuote (place + n + 2))
closed_word place text n (Err fault) = Fault fault

-- a word behind an opening quote
abbrev pub quoted_word : ℕ → List ℕ → Option ℕ → First
quoted_word place text None = Fault (BadQuote place)
quoted_word place text (Some n) = closed_word place text n (meaning (place + 1) (take n text))

-- a word that begins at once
abbrev pub word_here : ℕ → List ℕ → First
word_here place [] = NoWord
word_here place (b ∷ text) = if b == quote then quoted_word place text (before_quote text) else bare_word place (b ∷ text) (position_or_len (λ c. is_separator c || (c == quote)) (b ∷ text))

abbrev pub behind : ℕ → First → First
behind n NoWord = NoWord
behind n (AWord word used) = AWord word (n + used)
behind n (Fault fault) = Fault fault

-- how many separators come first
abbrev pub separators : List ℕ → ℕ
separators text = position_or_len (λ b. not (is_separator b)) text

-- the first word behind separators
abbrev pub first_word : ℕ → List ℕ → First
first_word place text = behind (separators text) (word_here (place + separators text) (drop (separators text) text))

abbrev pub with_word : Word → Result (List Word) LineError → Result (List Word) LineError
with_word word (Ok words) = Ok (word ∷ words)
with_word word (Err fault) = Err fault

-- The words of a text that stands at a place of the line, or the leftmost fault. Each word takes a byte, so there are no more than bytes.
abbrev pub words_from : ℕ → ℕ → List ℕ → Result (List Word) LineError
words_from zero place text = Ok []
words_from (suc most) place text = elim (first_word place text) [
  | NoWord ↦ Ok []
  | AWord word used ↦ with_word word (words_from most (place + used) (drop used text))
  | Fault fault ↦ Err fault
]

abbrev pub words : List ℕ → Result (List Word) LineError
words line = words_from (length line) 0 line
