-- What is due to a run, by what it is asked for and the store that it is given.
use Rattle.std.specs.Prelude.{◌≡◌, ◌⊎◌, ℕ, List, Bool, true, false, not, ◌&&◌, Some, None}
use Rattle.std.specs.Option.{option_map}
use Rattle.std.specs.declared.option.Option.{Option}
use Rattle.cdf_store.specs.Disk.{Disk}
use Rattle.cdf_store.specs.Named.{lookup, with_made}
use Rattle.cdf_format.specs.WellFormed.{WellFormed}
use Rattle.cdf_words.specs.Asking.{Asked}
use Rattle.cdf_saving.specs.declared.status.Status.{Status}
use Rattle.cdf_saving.specs.declared.status.Status.TheVariants as statuses

-- the store is called, but where no file is named, and for a new one that is not saved
abbrev pub calls_store : Option Asked → Bool
calls_store None = false
calls_store (Some a) = not (a.new && a.no_save)

-- a file that is there is well formed
abbrev pub IsGood : Option (List ℕ) → Type 0
IsGood None = ⊥
IsGood (Some file) = WellFormed file

-- a run can begin: with a new file, or with one that the store tells, which is well formed
abbrev pub CanBegin : Bool → List ℕ → Option (List (List ℕ × List ℕ)) → Type 0
CanBegin true name files = Unit {0}
CanBegin false name None = ⊥
CanBegin false name (Some files) = IsGood (lookup name files)

-- the files stay, but that an empty one may have been made
abbrev pub FilesStay : Bool → List ℕ → Option (List (List ℕ × List ℕ)) → Option (List (List ℕ × List ℕ)) → Type 0
FilesStay false name old new = new ≡ old
FilesStay true name old new = (new ≡ old) ⊎ (new ≡ option_map (with_made name) old)

-- nothing was written to the store
pub record Untouched {U : Type 0} (a : Asked) (d d' : Disk U) : Type 0 where
  pub files : FilesStay a.new a.name d.files d'.files
  pub touched : d'.touched ≡ d.touched

-- the file that was read is the one under the name; where the store failed or memory was refused, none may have been read
abbrev pub Looked : Option (List ℕ) → Option (List ℕ) → Status → Type 0
Looked file under statuses.StoreReadFault = (file ≡ None) ⊎ (file ≡ under)
Looked file under statuses.NoMemory = (file ≡ None) ⊎ (file ≡ under)
Looked file under other = file ≡ under
