-- What a run leaves of the store.
use Rattle.std.specs.Prelude.{Bool, IfSome, List, None, Some, false, length, true, ℕ, ◌+◌, ◌≡◌, ◌≤◌, ◌⊎◌}
use Rattle.std.specs.Option.{option_map}
use Rattle.std.specs.declared.option.Option.{Option}
use Rattle.cdf_store.specs.Disk.{Disk}
use Rattle.cdf_store.specs.Named.{files_attached, found_or_made, lookup, with_file}
use Rattle.cdf_pages.specs.Saving.{Differs, IsBetween, LiesIn}
use Rattle.cdf_format.specs.Sealed.{image_of, sealed}
use Rattle.cdf_format.specs.WellFormed.{WellFormed}
use Rattle.cdf_words.specs.Asking.{Asked}
use Rattle.cdf_saving.specs.Saved.{Rewrites}

-- over a store that tells its files this is the file under the name, or an empty one that was made
abbrev pub IsFound : Asked → Option (List (List ℕ × List ℕ)) → List ℕ → Type 0
IsFound a files file = IfSome files (λ fs. found_or_made a.new (lookup a.name fs) ≡ Some file)

-- no file is attached; with `--new` an empty one may have been made
pub record Unattached {U : Type 0} (a : Asked) (d d' : Disk U) : Type 0 where
  pub held : d'.held ≡ None
  pub name : d'.name ≡ None
  pub files : (d'.files ≡ d.files) ⊎ (d'.files ≡ files_attached a.new a.name d.files)
  pub touched : d'.touched ≡ d.touched
  pub only : d'.only ≡ d.only
  pub under : d'.under ≡ d.under

-- this file is attached, and nothing was written
pub record Attached {U : Type 0} (a : Asked) (file : List ℕ) (d d' : Disk U) : Type 0 where
  pub found : IsFound a d.files file
  pub held : d'.held ≡ Some file
  pub name : d'.name ≡ Some a.name
  pub files : d'.files ≡ files_attached a.new a.name d.files
  pub touched : d'.touched ≡ d.touched
  pub only : d'.only ≡ d.only
  pub under : d'.under ≡ d.under

-- the file of the name has these bytes by now, and no other file changed
pub record Replaced {U : Type 0} (a : Asked) (file bytes : List ℕ) (d d' : Disk U) : Type 0 where
  pub found : IsFound a d.files file
  pub held : d'.held ≡ Some bytes
  pub name : d'.name ≡ Some a.name
  pub files : d'.files ≡ option_map (with_file a.name bytes) d.files
  pub only : d'.only ≡ d.only
  pub under : d'.under ≡ d.under

-- nothing was written; with `--new --no-save` the store was not called
abbrev pub KeptBy : {U : Type 0} → Bool → Bool → Asked → List ℕ → Disk U → Disk U → Type 0
KeptBy true true a file d d' = d' ≡ d
KeptBy true false a file d d' = Attached a file d d'
KeptBy false no_save a file d d' = Attached a file d d'

abbrev pub Kept : {U : Type 0} → Asked → List ℕ → Disk U → Disk U → Type 0
Kept a file d d' = KeptBy a.new a.no_save a file d d'

-- a range lies in a page in which a file has a byte by now that the old one had not there, or behind the image that it holds
abbrev pub IsChanged : List ℕ → List ℕ → ℕ × ℕ → Type 0
IsChanged old now range = ((number : ℕ) × Differs old now number × LiesIn number range) ⊎ ((length (image_of now) ≤ range.0) × (range.0 + range.1 ≤ length now))

-- the image is saved, unless that is not asked for
abbrev pub StoredBy : {U : Type 0} → Bool → Asked → List ℕ → List ℕ → Disk U → Disk U → Type 0
StoredBy true a file end d d' = Kept a file d d'
StoredBy false a file end d d' = WellFormed (sealed end) × Replaced a file (sealed end) d d' × Rewrites file end d d'

abbrev pub Stored : {U : Type 0} → Asked → List ℕ → List ℕ → Disk U → Disk U → Type 0
Stored a file end d d' = StoredBy a.no_save a file end d d'

-- the saving failed: each byte of the file is an old or a new one
pub record Spoiled {U : Type 0} (a : Asked) (file end : List ℕ) (d d' : Disk U) : Type 0 where
  pub saves : a.no_save ≡ false
  pub now : List ℕ
  pub between : IsBetween file (sealed end) now
  pub replaced : Replaced a file now d d'
  pub touched : Rewrites file end d d'
