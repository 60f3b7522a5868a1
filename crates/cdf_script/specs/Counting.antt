-- The name of a command, and how many words follow it.
use Rattle.std.specs.Prelude.{◌≡◌, ℕ, List, [], ◌∷◌, Some, None, Ok, Err}
use Rattle.std.specs.declared.option.Option.{Option}
use Rattle.std.specs.declared.result.Result.{Result}
use Rattle.cdf_model.specs.declared.answer.LineError.{LineError}
use Rattle.cdf_model.specs.Forms.{CommandRow}
use Rattle.cdf_model.specs.Grammar.{Faulty, parse_words, read_row, read_all}
use Rattle.cdf_model.specs.Quoting.{Word}
use Rattle.cdf_script.specs.declared.fault.ParseError.{ParseError}
use Rattle.cdf_script.specs.declared.verb.Verb.{Verb}
use Rattle.cdf_script.specs.Faults.{Fails}
use Rattle.cdf_script.specs.Verbs.{row_of}

-- What words come to by the name that they begin with, on a line of any length. Words that are left follow the name.
abbrev pub Begins : List Word → List Word → Result (Option Verb) ParseError → Type 0
Begins words left (Ok None) = words ≡ []
Begins words left (Ok (Some verb)) = (line_length : ℕ) → parse_words line_length words ≡ read_all line_length (row_of verb) left
Begins words left (Err e) = (line_length : ℕ) → Fails (parse_words line_length words) e

-- the first of the words stands at the place
abbrev pub BeginsAt : List Word → ℕ → Type 0
BeginsAt [] place = ⊥
BeginsAt (word ∷ words) place = word.place ≡ place

-- the words are as many as the command wants, or there is a fault
abbrev pub Counts : ℕ → CommandRow → List Word → Result (Unit {0}) LineError → Type 0
Counts line_length r words (Ok done) = read_all line_length r words ≡ read_row r words
Counts line_length r words (Err fault) = read_all line_length r words ≡ Faulty fault
