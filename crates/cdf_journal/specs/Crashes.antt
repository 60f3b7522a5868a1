-- The two parts of a disk, and what a crash may leave of them (own).
use Rattle.std.specs.Prelude.{◌≡◌, ◌≤◌, ◌⊎◌, ℕ, ◌+◌, ◌-◌, max, min, List, length, take, drop, Some}
use Rattle.std.specs.declared.option.Option.{Option}
use Rattle.cdf_journal.specs.declared.disk.Part.{Part}
use Rattle.cdf_journal.specs.declared.disk.Part.TheVariants.{Main, Log}

-- the bytes of the file, and of the log beside it
pub record Parts : Type 0 where
  pub main : List ℕ
  pub log : List ℕ

abbrev pub part_of : Parts → Part → List ℕ
part_of parts Main = parts.main
part_of parts Log = parts.log

abbrev pub with_part : Parts → Part → List ℕ → Parts
with_part parts Main bytes = record parts { main = bytes }
with_part parts Log bytes = record parts { log = bytes }

-- ---- what one call leaves

-- after a write of n bytes that a crash cuts short: any bytes in the range and past the old end, the same elsewhere
pub record Torn (at n : ℕ) (old new : List ℕ) : Type 0 where
  pub before : take at new ≡ take at old
  pub after : drop (at + n) new ≡ drop (at + n) old
  pub no_shorter : length old ≤ length new
  pub no_longer : length new ≤ max (length old) (at + n)

-- after a cut: some length between, or the one of before where that is less
pub record Shortened (n : ℕ) (old new : List ℕ) : Type 0 where
  pub no_shorter : min n (length old) ≤ length new
  pub front : take (length new) old ≡ new

-- a step of one part; the other one stays
abbrev pub InPart : Part → (List ℕ → List ℕ → Type 0) → Parts → Parts → Type 0
InPart Main step old new = step old.main new.main × (new.log ≡ old.log)
InPart Log step old new = step old.log new.log × (new.main ≡ old.main)

-- each new outcome of a crash is an old outcome after a step
abbrev pub Follows : (Parts → Parts → Type 0) → (Parts → Type 0) → (Parts → Type 0) → Type 0
Follows step old new = (c : Parts) → new c → (d : Parts) × old d × step d c

-- a read of a part of so many bytes fills no more than there are, and gives none only where none was to be read
pub record ReadsSome (size place room n : ℕ) : Type 0 where
  pub fits : n ≤ room
  pub within : n ≤ size - place
  pub none : n ≡ 0 → (room ≡ 0) ⊎ (size ≤ place)

-- ---- what may be left over time

-- a crash leaves this and nothing else
abbrev pub Only : Parts → (Parts → Type 0) → Type 0
Only parts outcomes = (c : Parts) → outcomes c → c ≡ parts

-- Time goes on: a crash since t might have left what it might have left before, or what it may leave now.
pub record Elapses (before now : ℕ) (past since : ℕ → Parts → Type 0) (may_leave : Parts → Type 0) : Type 0 where
  pub later : before ≤ now
  pub nothing_else : (t : ℕ) (c : Parts) → t ≤ before → since t c → past t c ⊎ may_leave c
  pub keeps : (t : ℕ) (c : Parts) → t ≤ before → past t c → since t c

-- Some calls led from one disk to another: each outcome of a crash, at the end or at a moment on the way, is an outcome of before
-- after a step.
pub record Leads {D : Type 0} (may_leave : D → Parts → Type 0) (moment : D → ℕ) (left_since : D → ℕ → Parts → Type 0) (step : Parts → Parts → Type 0) (old new : D) : Type 0 where
  pub later : moment old ≤ moment new
  pub now : Follows step (may_leave old) (may_leave new)
  pub since : (t : ℕ) (c : Parts) → t ≤ moment old → left_since new t c → left_since old t c ⊎ ((d : Parts) × may_leave old d × step d c)

-- a crash at any moment since the old disk leaves parts that have P
pub record LeavesOnly {D : Type 0} (moment : D → ℕ) (left_since : D → ℕ → Parts → Type 0) (old new : D) (P : Parts → Type 0) : Type 0 where
  pub later : moment old ≤ moment new
  pub each : (c : Parts) → left_since new (moment old) c → P c
  -- for a run that began earlier
  pub before : (t : ℕ) (c : Parts) → t ≤ moment old → left_since new t c → left_since old t c ⊎ P c

-- reads give this, and a crash leaves it
pub record Settles {D : Type 0} (seen : D → Option Parts) (may_leave : D → Parts → Type 0) (disk : D) (parts : Parts) : Type 0 where
  pub reads : seen disk ≡ Some parts
  pub durable : Only parts (may_leave disk)
