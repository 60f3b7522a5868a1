-- The words that are left of a line.
use Rattle.std.specs.Prelude.{ℕ, List, [], length, Ok, Err}
use Rattle.std.specs.declared.result.Result.{Result}
use Rattle.cdf_model.specs.declared.answer.LineError.{LineError}
use Rattle.cdf_model.specs.Quoting.{Word, words_from}

-- the words of a text that stands at a place of the line
abbrev pub words_at : ℕ → List ℕ → Result (List Word) LineError
words_at place text = words_from (length text) place text

-- how many words there are
abbrev pub how_many : Result (List Word) LineError → Result ℕ LineError
how_many (Ok words) = Ok (length words)
how_many (Err fault) = Err fault

-- the words that were read
abbrev pub words_in : Result (List Word) LineError → List Word
words_in (Ok words) = words
words_in (Err fault) = []
