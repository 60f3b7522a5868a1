-- A script is taken piece by piece (own). `before` is what the source had left, and `left` what it has left then.
use Rattle.std.specs.Prelude.{◌≡◌, ℕ, ◌+◌, ◌<◌, ◌≤◌, List, [], Bool, true, false, length}
use Rattle.std.specs.declared.option.Option.{Option}
use Rattle.std.specs.Io.KnownBytes.{Consumes, IsAtEnd}
use Rattle.cdf_lines.specs.Pending.{Pending, fed, finished}
use Rattle.cdf_model.specs.Limits.{script_limit}
use Rattle.cdf_saving.specs.declared.status.Status.{Status}
use Rattle.cdf_saving.specs.declared.status.Status.TheVariants as statuses

-- the most bytes of a script that are taken before they are answered
abbrev pub piece_limit : ℕ
piece_limit = 65536

-- a further piece was read, and its lines are ready
pub record TakesPiece (before left : Option (List ℕ)) (old new : Pending) (taken taken' : ℕ) : Type 0 where
  pub piece : List ℕ
  pub some : 1 ≤ length piece
  pub short : length piece ≤ piece_limit
  pub consumed : Consumes before left piece
  pub sum : taken' ≡ taken + length piece
  pub within : taken' ≤ script_limit
  pub lines : new ≡ fed old piece

-- the script was read to its end, and its last line is ready
pub record TakesLast (before left : Option (List ℕ)) (old new : Pending) (taken taken' : ℕ) : Type 0 where
  pub consumed : Consumes before left []
  pub over : IsAtEnd left
  pub sum : taken' ≡ taken
  pub lines : new ≡ finished old

-- the one or the other
abbrev pub Takes : Bool → Option (List ℕ) → Option (List ℕ) → Pending → Pending → ℕ → ℕ → Type 0
Takes true before left old new taken taken' = TakesPiece before left old new taken taken'
Takes false before left old new taken taken' = TakesLast before left old new taken taken'

-- a further piece was read, of which this holds, and its lines are not ready
pub record Drops (before left : Option (List ℕ)) (IsWithin : ℕ → Type 0) : Type 0 where
  pub piece : List ℕ
  pub short : length piece ≤ piece_limit
  pub consumed : Consumes before left piece
  pub size : IsWithin (length piece)

-- the source failed, the piece passed the limit of a script, or there was no memory for its lines
abbrev pub TakesNone : Option (List ℕ) → Option (List ℕ) → ℕ → Status → Type 0
TakesNone before left taken statuses.ScriptFault = Consumes before left []
TakesNone before left taken statuses.ScriptTooLong = Drops before left (λ size. script_limit < taken + size)
TakesNone before left taken statuses.NoMemory = Drops before left (λ size. taken + size ≤ script_limit)
TakesNone before left taken other = ⊥
