-- What opening a file with its log leaves (own).
use Rattle.std.specs.Prelude.{◌≡◌, ℕ, List, [], ◌∷◌, true, Some, None}
use Rattle.std.specs.declared.option.Option.{Option}
use Rattle.cdf_store.specs.Disk.{Disk}
use Rattle.cdf_store.specs.declared.store.AttachError.{AttachError}
use Rattle.cdf_store.specs.declared.store.AttachError.TheVariants as attaching
use Rattle.cdf_journal.specs.declared.journal_error.JournalError.{JournalError}
use Rattle.cdf_journal.specs.declared.journal_error.JournalError.TheVariants.{Fault, NoMemory}
use Rattle.cdf_journal.specs.Crashes.{Parts}
use Rattle.cdf_journal.specs.Log.{is_open, journal_for, recovered}
use Rattle.cdf_journal.specs.Stages.{AtRest}

-- want of memory is no fault
abbrev pub GivesError : AttachError → JournalError → Type 0
GivesError attaching.Failed e = e ≡ Fault
GivesError attaching.NoMemory e = e ≡ NoMemory

-- what a crash leaves is recovered to this file
abbrev pub IsRecovered : List ℕ → Parts → Type 0
IsRecovered file c = recovered c.main c.log ≡ file

-- the log is open, and is no journal of the file
abbrev pub IsBadLog : List ℕ → List ℕ → Type 0
IsBadLog main log = (is_open log ≡ true) × (journal_for main log ≡ None)

-- the disk is at rest, and has this file
pub record Rests {D : Type 0} (seen : D → Option Parts) (may_leave : D → Parts → Type 0) (disk : D) (file : List ℕ) : Type 0 where
  pub parts : Parts
  pub at_rest : AtRest seen may_leave disk parts
  pub has : parts.main ≡ file

-- the bytes of the one file that a device has
abbrev pub first_bytes : List (List ℕ × List ℕ) → List ℕ
first_bytes [] = []
first_bytes (file ∷ files) = file.1

abbrev pub bytes_in : Option (List (List ℕ × List ℕ)) → List ℕ
bytes_in None = []
bytes_in (Some files) = first_bytes files

abbrev pub sole_file : {U : Type 0} → Disk U → List ℕ
sole_file d = bytes_in d.files

-- a device with one file, which is not attached, and no other one can be
pub record HasOne {U : Type 0} (name : List ℕ) (d : Disk U) : Type 0 where
  pub held : d.held ≡ None
  pub unnamed : d.name ≡ None
  pub files : d.files ≡ Some ((name, sole_file d) ∷ [])
  pub only : d.only ≡ Some name
  pub touched : d.touched ≡ None
