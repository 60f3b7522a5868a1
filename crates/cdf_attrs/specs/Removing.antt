-- An entry that goes, and what is left of its chain (CDF Internal Format Description, "Attribute Descriptor Record": MAXgrEntry, MAXzEntry; own).
use Rattle.std.specs.Prelude.{◌≡◌, ◌≤◌, ℕ, ℤ, pos, negsuc, List, [], ◌∷◌, length, slice_index}
use Rattle.std.specs.Int.{w32, cast_unsigned}
use Rattle.std.specs.List.{remove}
use Rattle.cdf_model.specs.declared.kinds.EntryKind.{EntryKind}
use Rattle.cdf_format.specs.Tiles.{In}
use Rattle.cdf_attrs.specs.Known.{KnownEntries}
use Rattle.cdf_attrs.specs.Putting.{RemovedAs}

-- this is the greatest of numbers, or -1 where there are none
abbrev pub IsGreatest : List ℕ → ℤ → Type 0
IsGreatest [] z = z ≡ negsuc 0
IsGreatest (n ∷ numbers) z = (m : ℕ) × (z ≡ pos m) × (In m (n ∷ numbers) × ((k : ℕ) → In k (n ∷ numbers) → k ≤ m))

-- the entries of a chain without one of them
abbrev pub without_at : KnownEntries → ℕ → KnownEntries
without_at entries i = record entries { numbers = remove entries.numbers i; places = remove entries.places i }

-- the entry at an index of a chain was taken out of it and freed, and the count and the greatest number of those that are left were written
pub record TakenAt (b now : List ℕ) (kind : EntryKind) (adr : ℕ) (entries : KnownEntries) (i : ℕ) : Type 0 where
  pub count : ℤ
  pub greatest : ℤ
  pub count_is : cast_unsigned w32 count ≡ length (remove entries.numbers i)
  pub greatest_is : IsGreatest (remove entries.numbers i) greatest
  pub removed : RemovedAs b now kind adr (slice_index entries.places i) count greatest
