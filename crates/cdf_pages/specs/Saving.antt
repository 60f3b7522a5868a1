-- What a save leaves of the attached file, and of the disk.
use Rattle.std.specs.Prelude.{◌≡◌, ◌⊎◌, ◌+◌, ◌*◌, ◌/◌, ◌≤◌, ◌<◌, ◌&&◌, ℕ, Bool, false, true, List, [], ◌++◌, length, take, slice_index, Some, None, Ok, Err, IsTrue, OnOk}
use Rattle.std.specs.declared.result.Result.{Result}
use Rattle.std.specs.declared.option.Option.{Option}
use Rattle.std.specs.List.{All}
use Rattle.std.specs.Option.{option_map}
use Rattle.cdf_base.specs.Causes.{Rose}
use Rattle.cdf_store.specs.Disk.{Disk, file_of, files_with}
use Rattle.cdf_store.specs.Unstored.{nothing}
use Rattle.cdf_store.specs.declared.unstored.Unstored.{Unstored}
use Rattle.cdf_pages.specs.declared.save_error.SaveError.{SaveError}
use Rattle.cdf_pages.specs.declared.save_error.SaveError.TheVariants.{Failed, NoMemory}

-- the attached file has these bytes, and beside it only the list of written ranges may differ
pub record Holds {U : Type 0} (d : Disk U) (bytes : List ℕ) (now : Disk U) : Type 0 where
  pub held_is : now.held ≡ Some bytes
  pub files_are : now.files ≡ files_with d.name bytes d.files
  pub name_stays : now.name ≡ d.name
  pub only_stays : now.only ≡ d.only
  pub under_stays : now.under ≡ d.under

-- A file between an old one and a new one: its length lies between theirs, and each byte is that of one of them at its place.
-- Until it is as long as the new one, no byte of the old one is written over.
pub record IsBetween (old new now : List ℕ) : Type 0 where
  pub long : (length old ≤ length now) ⊎ (length new ≤ length now)
  pub short : (length now ≤ length old) ⊎ (length now ≤ length new)
  pub each : (i : ℕ) → i < length now → ((i < length old) × (slice_index now i ≡ slice_index old i)) ⊎ ((i < length new) × (slice_index now i ≡ slice_index new i))
  pub grown : length now < length new → take (length old) now ≡ old

-- the attached file is between the one that was and the new one
pub record HoldsBetween {U : Type 0} (d : Disk U) (new : List ℕ) (now : Disk U) : Type 0 where
  pub bytes : List ℕ
  pub between : IsBetween (file_of d) new bytes
  pub holds : Holds d bytes now

-- what a save that fails leaves: the old bytes where they are kept, else a file between the old one and the new one; the very
-- same disk where there was no memory
abbrev pub FailsSaving : {T U : Type 0} → Disk U → List ℕ → Disk U → Result T SaveError → Type 0
FailsSaving d new now (Ok done) = Unit {0}
FailsSaving d new now (Err (Failed true)) = Holds d (file_of d) now
FailsSaving d new now (Err (Failed false)) = HoldsBetween d new now
FailsSaving d new now (Err NoMemory) = now ≡ d

-- so it is unless the save failed and the old bytes are kept
abbrev pub UnlessKept : {T : Type 0} → Result T SaveError → Type 0 → Type 0
UnlessKept (Ok done) A = A
UnlessKept (Err (Failed true)) A = Unit {0}
UnlessKept (Err (Failed false)) A = A
UnlessKept (Err NoMemory) A = A

-- Bytes of the file are written over only once its growth is stored: where nothing was left to store before, never is both growth
-- and change left, unless the old bytes are kept.
abbrev pub KeepsApart : {T : Type 0} → Result T SaveError → Unstored → Unstored → Type 0
KeepsApart result u u' = UnlessKept result (u ≡ nothing → (u'.growth && u'.change) ≡ false)

-- The file is written over and cut, and does not grow. Where no change is left to store, nothing was done.
pub record WritesOver {U : Type 0} (d d' : Disk U) (u u' : Unstored) : Type 0 where
  pub untouched : u'.change ≡ false → (d' ≡ d) × (u' ≡ u)
  pub growth : u'.growth ≡ u.growth

-- the store failed
abbrev pub IsFailed : {T : Type 0} → Result T SaveError → Type 0
IsFailed (Ok done) = ⊥
IsFailed (Err (Failed kept)) = Unit {0}
IsFailed (Err NoMemory) = ⊥

-- the count of faults never falls, the store is said to have failed only where it rose, and always where it rose
pub record HasSaveCause {T : Type 0} (before now : ℕ) (result : Result T SaveError) : Type 0 where
  pub later : before ≤ now
  pub failed : IsFailed result → Rose before now
  pub done : OnOk result (now ≡ before)
  pub counted : before < now → IsFailed result

-- a range, by its place and its length, lies in a page
abbrev pub LiesIn : ℕ → ℕ × ℕ → Type 0
LiesIn number range = (number * 65536 ≤ range.0) × (range.0 + range.1 ≤ number * 65536 + 65536)

-- it lies in a changed page, or in a tail of so many bytes behind an image of n bytes
abbrev pub IsChangedRange : (ℕ → Bool) → ℕ → ℕ → ℕ × ℕ → Type 0
IsChangedRange changed n tail range = ((number : ℕ) × IsTrue (changed number) × LiesIn number range) ⊎ ((n ≤ range.0) × (range.0 + range.1 ≤ n + tail))

-- only such ranges were added to the written ones, where the device tells them
pub record Touches (P : ℕ × ℕ → Type 0) (before after : Option (List (ℕ × ℕ))) : Type 0 where
  pub ranges : List (ℕ × ℕ)
  pub all : All P ranges
  pub added : after ≡ option_map (λ old. old ++ ranges) before

-- the file is the image, which was not edited, and no tail is to stand behind it
pub record IsSavedAlready (edited : Bool) (file image : List ℕ) (tail : Option (List ℕ)) : Type 0 where
  pub unedited : edited ≡ false
  pub short : length file ≤ length image
  pub no_tail : tail ≡ None

-- no page is changed, the file is not longer than the image, and no tail is to stand behind it
pub record HasNothingToSave (changed : ℕ → Bool) (file image : List ℕ) (tail : Option (List ℕ)) : Type 0 where
  pub unchanged : (number : ℕ) → changed number ≡ false
  pub short : length file ≤ length image
  pub no_tail : tail ≡ None

-- the image has a byte in this page that the file has not there
pub record Differs (file image : List ℕ) (number : ℕ) : Type 0 where
  pub at : ℕ
  pub here : at / 65536 ≡ number
  pub inside : at < length image
  pub other : at < length file → slice_index file at ≡ slice_index image at → ⊥

-- the bytes of a tail, if there is one
abbrev pub tail_bytes : Option (List ℕ) → List ℕ
tail_bytes None = []
tail_bytes (Some bytes) = bytes
