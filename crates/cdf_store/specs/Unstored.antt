-- What of the attached file is not stored, and how writes and cuts add to it.
use Rattle.std.specs.Prelude.{◌≡◌, ℕ, ◌-◌, ◌<◌, ◌≤◌, ◌⊎◌, ◌||◌, ◌&&◌, false, nat_lt, length}
use Rattle.cdf_store.specs.Disk.{Disk, file_of}
use Rattle.cdf_store.specs.declared.unstored.Unstored.{Unstored}

-- all is stored
abbrev pub nothing : Unstored
nothing = record { growth = false; change = false }

-- so many bytes were written from a place on, in a file of this size: those past its end are growth, those before it a change
abbrev pub after_write : ℕ → ℕ → ℕ → Unstored → Unstored
after_write size place count u = record {
  growth = u.growth || nat_lt (size - place) count;
  change = u.change || (nat_lt 0 (size - place) && nat_lt 0 count);
}

-- a file of this size was cut to n bytes
abbrev pub after_cut : ℕ → ℕ → Unstored → Unstored
after_cut size n u = record { growth = u.growth; change = u.change || nat_lt n size }

-- a write of so many bytes failed: nothing was written, and the disk is as it was, or some of them were
abbrev pub WritesInPart : {U : Type 0} → ℕ → ℕ → Disk U → Disk U → Unstored → Unstored → Type 0
WritesInPart place count d d' u u' = ((d' ≡ d) × (u' ≡ u)) ⊎ ((n : ℕ) × (0 < n) × (n ≤ count) × (u' ≡ after_write (length (file_of d)) place n u))
