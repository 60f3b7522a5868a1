-- What a read at a place of a file gives, and what it adds to a count of bytes.
use Rattle.std.specs.Prelude.{◌≡◌, ℕ, ◌+◌, ◌-◌, ◌^◌, ◌≤◌, ◌⊎◌, min, List, length, take, drop, Some, None, Ok, Err}
use Rattle.std.specs.declared.option.Option.{Option}
use Rattle.std.specs.declared.result.Result.{Result}

-- the n first bytes of out are those of the file from the place on, and there are none only where nothing was to be read
pub record ReadsPiece (file : List ℕ) (place : ℕ) (out : List ℕ) (n : ℕ) : Type 0 where
  pub fits : n ≤ length out
  pub bytes : take n out ≡ take n (drop place file)
  pub none : n ≡ 0 → (length out ≡ 0) ⊎ (length file ≤ place)

-- a read gave a piece of the attached file, or failed
abbrev pub ReadsAt : {E : Type 0} → Option (List ℕ) → ℕ → List ℕ → Result ℕ E → Type 0
ReadsAt None place out result = Unit {0}
ReadsAt (Some file) place out (Ok n) = ReadsPiece file place out n
ReadsAt (Some file) place out (Err e) = Unit {0}

-- a count of bytes that grows by n, and stands at the last number of 64 bits once it would pass that
abbrev pub count_on : ℕ → ℕ → ℕ
count_on count n = min (count + n) (2 ^ 64 - 1)

-- the count of the bytes given, where the device tells it, grew by those that a read gave
abbrev pub Counts : {E : Type 0} → Option ℕ → Option ℕ → Result ℕ E → Type 0
Counts None new result = Unit {0}
Counts (Some count) new (Ok n) = new ≡ Some (count_on count n)
Counts (Some count) new (Err e) = new ≡ Some count
