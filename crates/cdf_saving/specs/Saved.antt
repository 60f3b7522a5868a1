-- What a saving leaves of the file, and what is told of it.
use Rattle.std.specs.Prelude.{Bool, List, None, Some, false, length, true, ℕ, ◌&&◌, ◌+◌, ◌≡◌, ◌≤◌, ◌⊎◌}
use Rattle.std.specs.declared.option.Option.{Option}
use Rattle.cdf_format.specs.Sealed.{sealed}
use Rattle.cdf_pages.specs.Saving.{Differs, Holds, HoldsBetween, IsBetween, LiesIn, Touches}
use Rattle.cdf_saving.specs.declared.notes.Left.{Left}
use Rattle.cdf_saving.specs.declared.notes.Left.TheVariants as lefts
use Rattle.cdf_saving.specs.declared.status.Status.{Status}
use Rattle.cdf_saving.specs.declared.status.Status.TheVariants as statuses
use Rattle.cdf_store.specs.Disk.{Disk, file_of}
use Rattle.cdf_store.specs.Unstored.{nothing}
use Rattle.cdf_store.specs.declared.unstored.Unstored.{Unstored}

-- a range lies in a page in which the image has a byte that the file had not there, or behind the image in its checksum
abbrev pub IsRewritten : List ℕ → List ℕ → ℕ × ℕ → Type 0
IsRewritten file image range = ((number : ℕ) × Differs file image number × LiesIn number range) ⊎ ((length image ≤ range.0) × (range.0 + range.1 ≤ length (sealed image)))

-- only such ranges were written
abbrev pub Rewrites : {U : Type 0} → List ℕ → List ℕ → Disk U → Disk U → Type 0
Rewrites file image d d' = Touches (IsRewritten file image) d.touched d'.touched

-- A run whose script was answered is saved, or that fails. Of the file only what differs is written.
abbrev pub EndsSaving : {U : Type 0} → Bool → List ℕ → Disk U → Disk U → Status → Type 0
EndsSaving refused end d d' statuses.Done = (refused ≡ false) × Holds d (sealed end) d' × Rewrites (file_of d) end d d'
EndsSaving refused end d d' statuses.SomeRefused = (refused ≡ true) × Holds d (sealed end) d' × Rewrites (file_of d) end d d'
EndsSaving refused end d d' statuses.StoreWriteFault = HoldsBetween d (sealed end) d' × Rewrites (file_of d) end d d'
EndsSaving refused end d d' statuses.StoreReadFault = d' ≡ d
EndsSaving refused end d d' statuses.NoMemory = d' ≡ d
EndsSaving refused end d d' other = ⊥

-- what a saving that failed left of the old bytes and of the new ones: all old ones, some of both, or all new ones
abbrev pub IsLeft : Option Left → List ℕ → List ℕ → List ℕ → Type 0
IsLeft None old new now = ⊥
IsLeft (Some lefts.Old) old new now = now ≡ old
IsLeft (Some lefts.Part) old new now = IsBetween old new now
IsLeft (Some lefts.Unsynced) old new now = now ≡ new

-- it is told where a saving failed, and of no other run
abbrev pub TellsLeft : Option Left → List ℕ → List ℕ → List ℕ → Status → Type 0
TellsLeft what old new now statuses.StoreWriteFault = IsLeft what old new now
TellsLeft what old new now other = what ≡ None

-- Bytes of the file are written over only once its growth is stored: where nothing was left to store before, never is both growth
-- and change left, unless a saving failed and left the old bytes.
abbrev pub LeavesApart : Option Left → Unstored → Unstored → Type 0
LeavesApart None u u' = u ≡ nothing → (u'.growth && u'.change) ≡ false
LeavesApart (Some lefts.Old) u u' = Unit {0}
LeavesApart (Some other) u u' = u ≡ nothing → (u'.growth && u'.change) ≡ false
