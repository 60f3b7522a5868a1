-- What is known of a run over a store, in one place.
use Rattle.std.specs.Prelude.{Bool, IfSome, IsTrue, List, None, false, length, not, true, ℕ, ◌&&◌, ◌-◌, ◌<◌, ◌↔◌, ◌≡◌, ◌≢◌, ◌≤◌, ◌⊎◌}
use Rattle.std.specs.Option.{option_map}
use Rattle.std.specs.declared.option.Option.{Option}
use Rattle.cdf_store.specs.Disk.{Disk, file_in}
use Rattle.cdf_store.specs.Named.{lookup}
use Rattle.cdf_store.specs.Unstored.{nothing}
use Rattle.cdf_store.specs.declared.unstored.Unstored.{Unstored}
use Rattle.cdf_pages.specs.Saving.{Touches}
use Rattle.cdf_format.specs.Sealed.{image_of}
use Rattle.cdf_format.specs.WellFormed.{WellFormed}
use Rattle.cdf_model.specs.Limits.{image_limit, script_limit}
use Rattle.cdf_saving.specs.Counts.{Counted, counts}
use Rattle.cdf_saving.specs.Saved.{LeavesApart}
use Rattle.cdf_saving.specs.Statuses.{Exactly, IsDone, IsFailure, IsUnsaved, replaced_by}
use Rattle.cdf_saving.specs.declared.notes.Notes.{Notes}
use Rattle.cdf_saving.specs.declared.status.Status.TheVariants as statuses
use Rattle.cdf_saving.specs.declared.status.Status.{Status}
use Rattle.cdf_words.specs.Asking.{Asked, saves_nothing}
use Rattle.cdf_tool.specs.Accepts.{Accepts}
use Rattle.cdf_tool.specs.Checking.{Checks}
use Rattle.cdf_tool.specs.Due.{CanBegin, Looked, Untouched}
use Rattle.cdf_tool.specs.Endings.{Ends}
use Rattle.cdf_tool.specs.Ends.{SpoilsTo}
use Rattle.cdf_tool.specs.Idle.{IfIdle}
use Rattle.cdf_tool.specs.Outlets.{Outlets}
use Rattle.cdf_tool.specs.Reading.{IfReads, WritesNothing}
use Rattle.cdf_tool.specs.Says.{Names}
use Rattle.cdf_tool.specs.Stored.{IsChanged}

-- what a store tells of itself
pub record Device (U : Type 0) : Type 0 where
  pub disk : Disk U
  pub reads : ℕ
  pub writes : ℕ
  pub synced : Bool
  pub unstored : Unstored

abbrev pub device : {U : Type 0} → Disk U → ℕ → ℕ → Bool → Unstored → Device U
device disk reads writes synced unstored = record { disk = disk; reads = reads; writes = writes; synced = synced; unstored = unstored }

-- how often the sink and the source have failed
pub record Streams : Type 0 where
  pub sink : ℕ
  pub source : ℕ

abbrev pub streams : ℕ → ℕ → Streams
streams sink source = record { sink = sink; source = source }

-- All that the run of a tool promises of the store that was lent to it, clause by clause: `s` is the store before, and `s'` behind the run.
pub record Ran {U : Type 0} (a : Option Asked) (s s' : Device U) (c c' : Streams) (before left : Option (List ℕ)) (first now : Outlets) (notes : Notes) (status : Status) : Type 0 where
  pub accepted : Accepts a s.disk s'.disk before left first now status
  pub checked : IfSome a (λ asked. asked.check ≡ true → Checks asked.space s'.disk.held first.written now.written status)
  pub ends : Ends a s.disk s'.disk before left first now status
  pub named : IfSome a (λ asked. s'.disk.name ≡ option_map (λ _. asked.name) s'.disk.held)
  pub looked : IfSome a (λ asked. asked.new ≡ false → IsUnsaved (saves_nothing asked) status → IfSome s.disk.files (λ files. Looked s'.disk.held (lookup asked.name files) status))
  pub usage : Exactly statuses.Usage status (a ≡ None)
  pub no_file : IfSome a (λ asked. IfSome s.disk.files (λ files. Exactly statuses.NoFile status ((asked.new ≡ false) × (lookup asked.name files ≡ None))))
  pub no_file_read : status ≡ statuses.NoFile → s'.disk.held ≡ None
  pub rejected : IfSome a (λ asked. IfSome s'.disk.held (λ file. Exactly statuses.Rejected status ((asked.new ≡ false) × (WellFormed file → ⊥))))
  pub too_long : IfSome before (λ script. IfSome left (λ rest. Exactly statuses.ScriptTooLong status (script_limit < length script - length rest)))
  pub verdict : status ≡ statuses.Rejected → Names notes.broken s'.disk.held first.written now.written
  pub told : IfSome notes.broken (λ _. status ≡ statuses.Rejected)
  pub complete : IfSome a (λ asked. CanBegin asked.new asked.name s.disk.files → IfSome before (λ script. length script ≤ script_limit → IsDone status ⊎ IsFailure status))
  pub counted : Counted (counts s.reads s.writes c.sink c.source) (counts s'.reads s'.writes c'.sink c'.source) status
  pub untouched : IfSome a (λ asked. IsUnsaved (saves_nothing asked) status → Untouched asked s.disk s'.disk)
  pub unwritten : IfSome a (λ asked. IsUnsaved (saves_nothing asked) status → s'.writes ≡ s.writes)
  pub touched : IfSome a (λ asked. IfSome s.disk.files (λ files. IfSome s'.disk.held (λ file. IsDone status → Touches (IsChanged (file_in (lookup asked.name files)) file) s.disk.touched s'.disk.touched)))
  pub reads : IfSome a (λ asked. asked.new ≡ false → IfReads before (WritesNothing s.disk s'.disk s.writes s'.writes status))
  pub idle : IfSome a (λ asked. asked.new ≡ false → IfSome s.disk.files (λ files. IfSome (lookup asked.name files) (λ file. IfIdle image_limit (image_of file) before (WritesNothing s.disk s'.disk s.writes s'.writes status))))
  pub synced : IfSome a (λ asked. IsDone status → Untouched asked s.disk s'.disk ⊎ IsTrue s'.synced)
  pub new_synced : IfSome a (λ asked. IsDone status → asked.new ≡ true → asked.no_save ≡ false → IsTrue s'.synced)
  pub stored : IsDone status → s.unstored ≡ nothing → s'.unstored ≡ nothing
  pub apart : LeavesApart notes.left s.unstored s'.unstored
  pub spoilt : IfSome a (λ asked. status ≡ statuses.StoreWriteFault → SpoilsTo asked s.disk s'.disk before left first now notes.left)
  pub none_left : status ≢ statuses.StoreWriteFault → notes.left ≡ None
  pub replaced : IfSome a (λ asked. IfSome s.disk.files (λ files. notes.replaced ≡ replaced_by (asked.new && not asked.no_save) (length (file_in (lookup asked.name files))) status))
  pub refusals : IsDone status → (1 ≤ notes.refusals.refused) ↔ (status ≡ statuses.SomeRefused)
  pub only : s'.disk.only ≡ s.disk.only
  pub under : s'.disk.under ≡ s.disk.under
