-- What follows from the log's definition.
use Rattle.std.specs.Prelude.{◌≡◌, ℕ, List, length, true, Some}
use Rattle.cdf_journal.specs.Log.{Body, PartlyFilled, body_in, fits, filled, is_open, recovered}

-- whatever a crash left of a file that was being filled, its open log is still its journal, and makes the same new file
abbrev pub RecoversAgain : Type 0
RecoversAgain = (old now log : List ℕ) (body : Body) → is_open log ≡ true → body_in log ≡ Some body → fits (length old) body.new_length body.members ≡ true → PartlyFilled old body now
    → recovered now log ≡ filled old body
