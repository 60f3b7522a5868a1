-- A script that only reads, and what a run of it leaves of the store (own).
use Rattle.std.specs.Prelude.{Bool, List, None, Some, true, ℕ, ◌≡◌, ◌≢◌}
use Rattle.std.specs.List.{list_all}
use Rattle.std.specs.declared.option.Option.{Option}
use Rattle.cdf_store.specs.Disk.{Disk}
use Rattle.cdf_edits.specs.Follows.{only_reads}
use Rattle.cdf_model.specs.Grammar.{Asks, Parsed, parse}
use Rattle.cdf_model.specs.Lines.{lines}
use Rattle.cdf_saving.specs.declared.status.Status.{Status}
use Rattle.cdf_saving.specs.declared.status.Status.TheVariants as statuses

abbrev pub reads : Parsed → Bool
reads (Asks c) = only_reads c
reads other = true

-- a line is blank, no command, or a command that only reads
abbrev pub line_reads : Option (List ℕ) → Bool
line_reads line = reads (parse line)

abbrev pub all_read : List (Option (List ℕ)) → Bool
all_read ls = list_all line_reads ls

-- where the source tells its bytes, and each line of them passes a test, this holds
abbrev pub IfAll : (Option (List ℕ) → Bool) → Option (List ℕ) → Type 0 → Type 0
IfAll test None P = Unit {0}
IfAll test (Some script) P = list_all test (lines script) ≡ true → P

-- where each line only reads, this holds
abbrev pub IfReads : Option (List ℕ) → Type 0 → Type 0
IfReads before P = IfAll line_reads before P

-- nothing was written to the store, with these counts of failed writes before and after, and no saving failed
pub record WritesNothing {U : Type 0} (d d' : Disk U) (before now : ℕ) (status : Status) : Type 0 where
  pub files : d'.files ≡ d.files
  pub touched : d'.touched ≡ d.touched
  pub writes : now ≡ before
  pub saved : status ≢ statuses.StoreWriteFault
