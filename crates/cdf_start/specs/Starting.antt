-- A run over a file and its log, and what a crash leaves of it.
use Rattle.std.specs.Prelude.{Bool, IfSome, IsTrue, List, Some, [], false, ℕ, ◌∷◌, ◌≡◌, ◌⊎◌}
use Rattle.std.specs.Option.{ForSome}
use Rattle.std.specs.declared.option.Option.{Option}
use Rattle.cdf_base.specs.Causes.{Rose}
use Rattle.cdf_journal.specs.Crashes.{LeavesOnly, Parts, Settles}
use Rattle.cdf_journal.specs.Log.{recovered}
use Rattle.cdf_journal.specs.Opening.{IsBadLog, IsRecovered, Rests, sole_file}
use Rattle.cdf_journal.specs.Stages.{IsOldOrNew}
use Rattle.cdf_saving.specs.Statuses.{IsDone}
use Rattle.cdf_saving.specs.declared.notes.Notes.{Notes}
use Rattle.cdf_saving.specs.declared.status.Status.TheVariants as statuses
use Rattle.cdf_saving.specs.declared.status.Status.{Status}
use Rattle.cdf_words.specs.Asking.{Asked}
use Rattle.cdf_tool.specs.Outlets.{Outlets}
use Rattle.cdf_start.specs.Refusing.{EndsUnopened}
use Rattle.cdf_start.specs.Running.{Device, Ran, Streams}

-- ---- no file was opened

-- where the disk tells what reads give, there is no file of this name
abbrev pub IsAbsent : Option Parts → Bool → Type 0
IsAbsent told there = IfSome told (λ _. there ≡ false)

-- where it does, the log is open, and no journal of the file
abbrev pub HasBadLog : Option Parts → Type 0
HasBadLog told = IfSome told (λ parts. IsBadLog parts.main parts.log)

-- No file was opened, and nothing of the script read. A crash at any moment leaves the file as it was, with its log.
pub record Unopened {D : Type 0} (seen : D → Option Parts) (there : D → List ℕ → Bool) (may_leave : D → Parts → Type 0) (moment : D → ℕ) (left_since : D → ℕ → Parts → Type 0) (faults : D → ℕ) (a : Asked) (disk disk' : D) (before left : Option (List ℕ)) (first now : Outlets) (status : Status) : Type 0 where
  pub ends : EndsUnopened ((a.new ≡ false) × IsAbsent (seen disk) (there disk a.name)) (HasBadLog (seen disk)) (Rose (faults disk) (faults disk')) first.written now.written status
  pub none_read : left ≡ before
  pub taps : now.taps ≡ first.taps
  pub moments : (parts : Parts) → Settles seen may_leave disk parts → LeavesOnly moment left_since disk disk' (IsRecovered (recovered parts.main parts.log))

-- ---- a run went over the file

-- Each moment since a disk was as before: a crash then leaves what is recovered to the old file or to the new one, and to the old one
-- alone where the run itself did not end with 0 or 1. With 0 or 1 at the end the new one is stored, and the log is shut.
pub record Survives {D : Type 0} (seen : D → Option Parts) (may_leave : D → Parts → Type 0) (moment : D → ℕ) (left_since : D → ℕ → Parts → Type 0) (disk disk' : D) (old new : List ℕ) (ran status : Status) : Type 0 where
  pub moments : LeavesOnly moment left_since disk disk' (IsOldOrNew old new)
  pub unsaved : (IsDone ran → ⊥) → LeavesOnly moment left_since disk disk' (IsRecovered old)
  pub saved : IsDone status → Rests seen may_leave disk' new

-- the run ended so, or it came to its end, and the disk failed as the file was saved
abbrev pub EndsSaved : ℕ → ℕ → Status → Status → Type 0
EndsSaved faults faults' ran status = (status ≡ ran) ⊎ (IsDone ran × (status ≡ statuses.StoreWriteFault) × Rose faults faults')

-- A run went over a store that has the one file, as its log mends it, and saved into memory; then that was saved through the log. The new file is the one that the run left there.
pub record Journalled {D : Type 0} (seen : D → Option Parts) (there : D → List ℕ → Bool) (may_leave : D → Parts → Type 0) (moment : D → ℕ) (left_since : D → ℕ → Parts → Type 0) (faults : D → ℕ) (a : Asked) (disk disk' : D) (c c' : Streams) (before left : Option (List ℕ)) (first now : Outlets) (notes : Notes) (status : Status) : Type 0 where
  pub opened : Device D
  pub ended : Device D
  pub ran : Status
  pub one : opened.disk.files ≡ Some ((a.name, sole_file opened.disk) ∷ [])
  -- a store in memory has no faults, so the run blames none
  pub faultless : (ended.reads ≡ opened.reads) × (ended.writes ≡ opened.writes)
  pub run : Ran (Some a) opened ended c c' before left first now notes ran
  pub ends : EndsSaved (faults disk) (faults disk') ran status
  pub exists : a.new ≡ false → IfSome (seen disk) (λ _. IsTrue (there disk a.name))
  pub journal : ForSome (seen disk) (λ parts. IsBadLog parts.main parts.log → ⊥)
  pub file : (parts : Parts) → Settles seen may_leave disk parts → sole_file opened.disk ≡ recovered parts.main parts.log
  pub survives : (parts : Parts) → Settles seen may_leave disk parts → Survives seen may_leave moment left_since disk disk' (recovered parts.main parts.log) (sole_file ended.disk) ran status
