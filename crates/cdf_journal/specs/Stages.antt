-- What the parts of a disk are at each step of a saving.
use Rattle.std.specs.Prelude.{◌≡◌, ◌≤◌, ◌<◌, ◌⊎◌, ℕ, ◌^◌, List, [], ◌∷◌, ◌++◌, length, take, slice_index, Some, true, false}
use Rattle.std.specs.declared.option.Option.{Option}
use Rattle.cdf_journal.specs.Crashes.{Parts, Settles}
use Rattle.cdf_journal.specs.Log.{Body, Member, body_bytes, body_in, is_open, recovered}

-- nothing is pending, and the log is closed
pub record AtRest {D : Type 0} (seen : D → Option Parts) (may_leave : D → Parts → Type 0) (disk : D) (parts : Parts) : Type 0 where
  pub settled : Settles seen may_leave disk parts
  pub closed : slice_index parts.log 0 ≡ 1 → ⊥
  pub long : 8 ≤ length parts.log

-- a log with this first byte, and this body behind its first 8 bytes
pub record IsLog (body : Body) (first : ℕ) (log : List ℕ) : Type 0 where
  pub front : List ℕ
  pub rest : List ℕ
  pub seven : length front ≡ 7
  pub is : log ≡ (first ∷ front) ++ (body_bytes body ++ rest)

-- numbers of 8 bytes
abbrev pub AreSmall : List Member → Type 0
AreSmall [] = Unit {0}
AreSmall ((place, bytes) ∷ more) = (place < 256 ^ 8) × (length bytes < 256 ^ 8) × AreSmall more

pub record IsSmall (body : Body) : Type 0 where
  pub length_fits : body.new_length < 256 ^ 8
  pub count_fits : length body.members < 256 ^ 8
  pub members_fit : AreSmall body.members

-- the log is open, and this is what it says
pub record IsOpen (body : Body) (log : List ℕ) : Type 0 where
  pub opened : is_open log ≡ true
  pub says : body_in log ≡ Some body

-- the file is the old one, and the first 8 bytes of the log are
abbrev pub KeepsGate : Parts → Parts → Type 0
KeepsGate old now = (now.main ≡ old.main) × (take 8 now.log ≡ take 8 old.log)

-- the file is this one, and the log is not open
abbrev pub IsShut : List ℕ → Parts → Type 0
IsShut main now = (now.main ≡ main) × (is_open now.log ≡ false)

-- the file is this one, and the log is not open, or says this
abbrev pub IsShutOrOpen : List ℕ → Body → Parts → Type 0
IsShutOrOpen main body now = (now.main ≡ main) × ((is_open now.log ≡ false) ⊎ IsOpen body now.log)

-- nothing is pending, the file is this one, and the log has this body behind a first byte
pub record Lies {D : Type 0} (seen : D → Option Parts) (may_leave : D → Parts → Type 0) (disk : D) (main : List ℕ) (body : Body) (first : ℕ) : Type 0 where
  pub log : List ℕ
  pub settled : Settles seen may_leave disk (record { main = main; log = log })
  pub has : IsLog body first log

-- what a crash leaves is recovered to the one file or to the other
abbrev pub IsOldOrNew : List ℕ → List ℕ → Parts → Type 0
IsOldOrNew old new c = (recovered c.main c.log ≡ old) ⊎ (recovered c.main c.log ≡ new)
