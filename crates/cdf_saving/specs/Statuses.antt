-- When each status comes (own).
use Rattle.std.specs.Prelude.{Bool, false, true, ℕ, ◌≡◌, ◌⊎◌}
use Rattle.cdf_area.specs.declared.area.AreaError.{AreaError}
use Rattle.cdf_area.specs.declared.area.AreaError.TheVariants as areas
use Rattle.cdf_saving.specs.declared.status.Status.{Status}
use Rattle.cdf_saving.specs.declared.status.Status.TheVariants as statuses

-- the number that the program ends with
abbrev pub number_of : Status → ℕ
number_of statuses.Done = 0
number_of statuses.SomeRefused = 1
number_of statuses.Usage = 2
number_of statuses.NoFile = 3
number_of statuses.Rejected = 4
number_of statuses.StoreReadFault = 5
number_of statuses.StoreWriteFault = 6
number_of statuses.OutputFault = 7
number_of statuses.NoMemory = 8
number_of statuses.ScriptFault = 9
number_of statuses.ScriptTooLong = 10
number_of statuses.BadJournal = 14

-- the status of a script that was run to its end
abbrev pub status_of : Bool → Status
status_of true = statuses.SomeRefused
status_of false = statuses.Done

-- the status of a run whose area failed, or that had no memory
abbrev pub status_of_area : AreaError → Status
status_of_area areas.Fault = statuses.StoreReadFault
status_of_area areas.NoMemory = statuses.NoMemory

-- everything succeeded
abbrev pub IsDone : Status → Type 0
IsDone statuses.Done = Unit {0}
IsDone statuses.SomeRefused = Unit {0}
IsDone other = ⊥

-- a device failed, or memory was refused
abbrev pub IsFailure : Status → Type 0
IsFailure statuses.StoreReadFault = Unit {0}
IsFailure statuses.StoreWriteFault = Unit {0}
IsFailure statuses.OutputFault = Unit {0}
IsFailure statuses.NoMemory = Unit {0}
IsFailure statuses.ScriptFault = Unit {0}
IsFailure other = ⊥

-- such a run saves nothing: that was asked for, or it did not come so far
abbrev pub IsUnsaved : Bool → Status → Type 0
IsUnsaved true status = Unit {0}
IsUnsaved false statuses.Done = ⊥
IsUnsaved false statuses.SomeRefused = ⊥
IsUnsaved false statuses.StoreWriteFault = ⊥
IsUnsaved false other = Unit {0}

-- so many bytes were there that a new file took the place of, which a run notes that saved it
abbrev pub replaced_by : Bool → ℕ → Status → ℕ
replaced_by true size statuses.Done = size
replaced_by true size statuses.SomeRefused = size
replaced_by new size other = 0

-- A status comes only where this holds, and where it holds no other one comes, unless a device failed or memory was refused.
pub record Exactly (due status : Status) (P : Type 0) : Type 0 where
  pub only : status ≡ due → P
  pub always : P → (status ≡ due) ⊎ IsFailure status
