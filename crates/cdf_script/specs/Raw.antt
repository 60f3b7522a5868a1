-- A word as it stands in the line.
use Rattle.std.specs.Prelude.{ℕ, ◌+◌, List, [], Bool, if◌then◌else◌, Ok, Err}
use Rattle.std.specs.declared.result.Result.{Result}
use Rattle.cdf_model.specs.declared.answer.LineError.{LineError}
use Rattle.cdf_model.specs.Quoting.{meaning}

-- the bytes that were read
abbrev pub bytes_or_none : Result (List ℕ) LineError → List ℕ
bytes_or_none (Ok bytes) = bytes
bytes_or_none (Err fault) = []

-- what the text of a word means, between quotes or bare
abbrev pub plain : Bool → ℕ → List ℕ → Result (List ℕ) LineError
plain quoted place text = if quoted then meaning (place + 1) text else Ok text
