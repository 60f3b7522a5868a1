-- What stands on a device, and what writes and cuts leave of it.
use Rattle.std.specs.Prelude.{◌≡◌, ℕ, ◌+◌, ◌≤◌, ◌⊎◌, List, [], ◌∷◌, ◌++◌, length, take, is_some, bytes_eq, IfSome, Some, None}
use Rattle.std.specs.List.{IsDistinct}
use Rattle.std.specs.declared.option.Option.{Option}
use Rattle.std.specs.Option.{option_map}
use Rattle.cdf_base.specs.Bytes.{put}
use Rattle.cdf_store.specs.Named.{lookup_in, names, with_file}

-- The state of a device with named files, beside its counts and the room that it has:
-- held: the bytes of the attached file, or none
-- name: the name under which it is attached
-- files: all files by name, where the device tells them
-- only: the one name that can be attached, where it is fixed
-- touched: the ranges written, each by its place and its length, where the device tells them
-- under: what stands beneath the device
pub record Disk (U : Type 0) : Type 0 where
  pub held : Option (List ℕ)
  pub name : Option (List ℕ)
  pub files : Option (List (List ℕ × List ℕ))
  pub only : Option (List ℕ)
  pub touched : Option (List (ℕ × ℕ))
  pub under : U

-- what holds of a disk at every moment: a file is attached under a name, no two files have one name, and the attached file is
-- the one of its name
pub record IsWhole {U : Type 0} (d : Disk U) : Type 0 where
  pub named : is_some d.name ≡ is_some d.held
  pub distinct : IfSome d.files (λ files. IsDistinct bytes_eq (names files))
  pub listed : IfSome d.files (λ files. d.held ≡ lookup_in d.name files)

-- how many writes there is room for, and up to which end
pub record Spare : Type 0 where
  pub writes : ℕ
  pub end : ℕ

-- the bytes of the attached file
abbrev pub file_in : Option (List ℕ) → List ℕ
file_in None = []
file_in (Some bytes) = bytes

abbrev pub file_of : {U : Type 0} → Disk U → List ℕ
file_of d = file_in d.held

-- the files with these bytes under the attached name
abbrev pub files_with : Option (List ℕ) → List ℕ → Option (List (List ℕ × List ℕ)) → Option (List (List ℕ × List ℕ))
files_with None bytes files = files
files_with (Some name) bytes files = option_map (with_file name bytes) files

-- the attached file has these bytes, and no other file changed
abbrev pub holding : {U : Type 0} → Disk U → List ℕ → Disk U
holding d bytes = record d { held = Some bytes; files = files_with d.name bytes d.files }

-- one more range was written
abbrev pub touching : {U : Type 0} → Disk U → ℕ → ℕ → Disk U
touching d place n = record d { touched = option_map (λ ranges. ranges ++ (place, n) ∷ []) d.touched }

-- these bytes were written from a place on
abbrev pub written : {U : Type 0} → Disk U → ℕ → List ℕ → Disk U
written d place bytes = touching (holding d (put (file_of d) place bytes)) place (length bytes)

-- nothing was written, or the front of the bytes
abbrev pub WrittenPart : {U : Type 0} → Disk U → ℕ → List ℕ → Disk U → Type 0
WrittenPart d place bytes d' = (d' ≡ d) ⊎ ((n : ℕ) × (n ≤ length bytes) × (d' ≡ written d place (take n bytes)))

-- the attached file was cut to a length
abbrev pub cut : {U : Type 0} → Disk U → ℕ → Disk U
cut d n = holding d (take n (file_of d))

-- at most one write is used up, and the end stays
pub record Spent (spare spare' : Spare) : Type 0 where
  pub writes : spare.writes ≤ spare'.writes + 1
  pub end : spare'.end ≡ spare.end
