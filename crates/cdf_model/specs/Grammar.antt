-- What a line of a script asks for (own).
use Rattle.std.specs.Prelude.{ℕ, List, [], ◌∷◌, map, length, drop, Bool, true, false, nat_lt, if◌then◌else◌, Some, None, Ok, Err}
use Rattle.std.specs.declared.option.Option.{Option}
use Rattle.cdf_model.specs.declared.answer.LineError.{LineError}
use Rattle.cdf_model.specs.declared.answer.LineError.TheVariants.{TooLong, UnknownWord, MissingWord, ExtraWord, BadNumber}
use Rattle.cdf_model.specs.declared.command.Command.{Command}
use Rattle.cdf_model.specs.Arguments.{number_in, numbers_in, varys_in, choice_in, type_in, scope_in, majority_in, entry_kind_in, rule_in}
use Rattle.cdf_model.specs.Forms.{Slot, AText, ANumber, Numbers, Varies, AType, AScope, AKind, AMajority, ARule, AChoice, AValue, Meaning, Makes, CommandRow, wanted, row_named}
use Rattle.cdf_model.specs.Limits.{line_limit}
use Rattle.cdf_model.specs.Lines.{is_blank}
use Rattle.cdf_model.specs.Quoting.{Word, words}

-- nothing, a command, or a fault
pub data Parsed : Type 0 where
  Blank : Parsed
  Asks : Command → Parsed
  Faulty : LineError → Parsed

-- what is read from a word goes on, and a word that is not read has this fault
abbrev pub or_fault : {A : Type 0} → LineError → Option A → (A → Parsed) → Parsed
or_fault fault None more = Faulty fault
or_fault fault (Some a) more = more a

-- what a word is read as, or its fault
abbrev pub read_word : (slot : Slot) → Word → (Meaning slot → Parsed) → Parsed
read_word AText word more = more word.bytes
read_word ANumber word more = or_fault (BadNumber word.place) (number_in word.bytes) more
read_word Numbers word more = or_fault (BadNumber word.place) (numbers_in word.bytes) more
read_word Varies word more = or_fault (UnknownWord word.place) (varys_in word.bytes) more
read_word AType word more = or_fault (UnknownWord word.place) (type_in word.bytes) more
read_word AScope word more = or_fault (UnknownWord word.place) (scope_in word.bytes) more
read_word AKind word more = or_fault (UnknownWord word.place) (entry_kind_in word.bytes) more
read_word AMajority word more = or_fault (UnknownWord word.place) (majority_in word.bytes) more
read_word ARule word more = or_fault (UnknownWord word.place) (rule_in word.bytes) more
read_word (AChoice first second) word more = or_fault (UnknownWord word.place) (choice_in first second word.bytes) more
read_word AValue word more = more (word.bytes ∷ [])

-- The words are read from the left, and the first that cannot stand in its place is the fault. There are as many as are wanted.
abbrev pub read : (slots : List Slot) (many : Bool) → Makes slots many → List Word → Parsed
read [] false command words = Asks command
read [] true makes words = Asks (makes (map (λ word. word.bytes) words))
read (slot ∷ slots) many makes [] = Blank
read (slot ∷ slots) many makes (word ∷ words) = read_word slot word (λ meaning. read slots many (makes meaning) words)

abbrev pub read_row : CommandRow → List Word → Parsed
read_row r words = read r.slots r.is_open r.makes words

-- the first word too many
abbrev pub extra : CommandRow → List Word → Parsed
extra r words = elim (drop (wanted r) words) [
  | [] ↦ read_row r words
  | word ∷ more ↦ if r.is_open then read_row r words else Faulty (ExtraWord word.place)
]

-- the words behind a command's name, on a line of so many bytes
abbrev pub read_all : ℕ → CommandRow → List Word → Parsed
read_all line_length r words = if nat_lt (length words) (wanted r) then Faulty (MissingWord line_length) else extra r words

abbrev pub parse_words : ℕ → List Word → Parsed
parse_words line_length [] = Blank
parse_words line_length (name ∷ words) = or_fault (UnknownWord name.place) (row_named name.bytes) (λ r. read_all line_length r words)

abbrev pub parse_text : List ℕ → Parsed
parse_text line = elim (words line) [
  | Ok ws ↦ parse_words (length line) ws
  | Err fault ↦ Faulty fault
]

-- a line that is too long is never blank
abbrev pub parse : Option (List ℕ) → Parsed
parse None = Faulty (TooLong line_limit)
parse (Some line) = if is_blank line then Blank else parse_text line
