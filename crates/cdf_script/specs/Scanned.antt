-- What the code reads of a text of words, in the terms of the definition of words.
use Rattle.std.specs.Prelude.{◌≡◌, ℕ, ◌+◌, List, [], drop, Some, None, Ok, Err, ◌≤◌, IfOk, IfSome}
use Rattle.std.specs.declared.option.Option.{Option}
use Rattle.std.specs.declared.result.Result.{Result}
use Rattle.cdf_model.specs.declared.answer.LineError.{LineError}
use Rattle.cdf_model.specs.Quoting.{First, NoWord, AWord, Fault, meaning, with_byte}
use Rattle.cdf_script.specs.declared.meaning.Unit.{Unit as Piece}
use Rattle.cdf_script.specs.declared.raw_word.Found.{Found}

-- the first byte that a quoted text means, and how many bytes stand for it; none at its end
abbrev pub MeansFirst : ℕ → List ℕ → Result (Option Piece) LineError → Type 0
MeansFirst place text (Ok None) = text ≡ []
MeansFirst place text (Ok (Some piece)) = meaning place text ≡ with_byte piece.byte (meaning (place + piece.used) (drop piece.used text))
MeansFirst place text (Err fault) = meaning place text ≡ Err fault

-- the answer of looking for a first word
abbrev pub Finds : First → Result (Option Found) LineError → Type 0
Finds first (Ok None) = first ≡ NoWord
Finds first (Ok (Some found)) = first ≡ AWord found.word found.used
Finds first (Err fault) = first ≡ Fault fault

-- the answer of reading a word that is there
abbrev pub FindsWord : First → Result Found LineError → Type 0
FindsWord first (Ok found) = first ≡ AWord found.word found.used
FindsWord first (Err fault) = first ≡ Fault fault

-- a word takes no more bytes than there are
abbrev pub Within : Result (Option Found) LineError → ℕ → Type 0
Within result most = IfOk result (λ answer. IfSome answer (λ found. found.used ≤ most))
