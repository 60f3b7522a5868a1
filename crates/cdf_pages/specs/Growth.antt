-- A file grows before its bytes are written over.
use Rattle.std.specs.Prelude.{◌≡◌, ◌⊎◌, ℕ, ◌+◌, ◌/◌, ◌≤◌, ◌<◌, List, length, take, slice_index}
use Rattle.std.specs.declared.option.Option.{Option}
use Rattle.cdf_store.specs.Disk.{Disk, file_of}
use Rattle.cdf_pages.specs.Pages.{byte_of}
use Rattle.cdf_pages.specs.Saving.{Holds}

-- a file on its way from an old one to a new one: the old bytes stand in front, and behind them those of the new one so far
pub record Grows (old new now : List ℕ) : Type 0 where
  pub front : take (length old) now ≡ old
  pub long : length old ≤ length now
  pub short : (length now ≤ length old) ⊎ (length now ≤ length new)
  pub each : (i : ℕ) → length old ≤ i → i < length now → slice_index now i ≡ slice_index new i

-- so it is of the attached file
pub record HoldsGrown {U : Type 0} (d : Disk U) (new : List ℕ) (now : Disk U) : Type 0 where
  pub bytes : List ℕ
  pub grows : Grows (file_of d) new bytes
  pub holds : Holds d bytes now

-- the file has the bytes of an image of n bytes from a place on
abbrev pub HasBehind : (ℕ → Option (List ℕ)) → List ℕ → ℕ → ℕ → Type 0
HasBehind pages file place n = (i : ℕ) → place ≤ i → i < n → slice_index file i ≡ byte_of pages file i

-- it has those of a tail behind n bytes, from a place in the tail on
abbrev pub HasTailBehind : List ℕ → ℕ → List ℕ → ℕ → Type 0
HasTailBehind tail n file place = (t : ℕ) → place ≤ t → t < length tail → slice_index file (n + t) ≡ slice_index tail t

-- how many pages so many bytes lie in
abbrev pub pages_to : ℕ → ℕ
pages_to size = (size + 65535) / 65536
