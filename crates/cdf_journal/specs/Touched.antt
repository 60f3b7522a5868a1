-- Whether a file that is saved through its log was written or cut since it was opened.
use Rattle.std.specs.Prelude.{◌≡◌, ◌+◌, ◌⊎◌, ℕ, Bool, Some, None}
use Rattle.std.specs.declared.option.Option.{Option}
use Rattle.cdf_journal.specs.declared.disk.Disk
use Rattle.cdf_journal.specs.declared.journal_store.JournalStore.{JournalStore}

-- it was neither
abbrev pub is_untouched_of : {D : Type 0} → {d : Disk.Ghosts D} → JournalStore D d → Bool
is_untouched_of store = store.is_untouched

-- for how many writes and cuts there is room
abbrev pub writes_of : {D : Type 0} → {d : Disk.Ghosts D} → JournalStore D d → ℕ
writes_of store = store.writes

-- Only a call that uses up one of these touches the file; making room does not.
abbrev pub TouchesByWriting : {D : Type 0} → {d : Disk.Ghosts D} → JournalStore D d → JournalStore D d → Option Bool → Type 0
TouchesByWriting old new None = is_untouched_of new ≡ is_untouched_of old
TouchesByWriting old new (Some failed) = (is_untouched_of new ≡ is_untouched_of old) ⊎ (writes_of new + 1 ≡ writes_of old)
