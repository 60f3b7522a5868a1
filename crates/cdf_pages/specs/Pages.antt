-- An image in pages of 65,536 bytes: some pages are changed ones, and all other bytes are those of a file.
use Rattle.std.specs.Prelude.{◌≡◌, ◌⊎◌, ℕ, Bool, true, is_some, zero, suc, min, ◌+◌, ◌-◌, ◌*◌, ◌/◌, ◌%◌, ◌<◌, ◌≤◌, List, [], ◌∷◌, length, nat_eq, slice_index, Some, None}
use Rattle.std.specs.Map.{lookup}
use Rattle.std.specs.declared.option.Option.{Option}
use Rattle.std.specs.Option.{option_map}
use Rattle.cdf_area.specs.OldBytes.{Old, back}

-- a byte, of a page that is changed or of the file
abbrev pub byte_from : Option (List ℕ) → List ℕ → ℕ → ℕ
byte_from None file i = slice_index file i
byte_from (Some page) file i = slice_index page (i % 65536)

abbrev pub byte_of : (ℕ → Option (List ℕ)) → List ℕ → ℕ → ℕ
byte_of pages file i = byte_from (pages (i / 65536)) file i

-- whether a page is a changed one
abbrev pub is_in : (ℕ → Option (List ℕ)) → ℕ → Bool
is_in pages number = is_some (pages number)

-- the n values of f from i on
unfoldable pub listed : (ℕ → ℕ) → ℕ → ℕ → List ℕ
listed f i zero = []
listed f i (suc n) = f i ∷ listed f (suc i) n

-- the first n bytes
unfoldable pub image_of : (ℕ → Option (List ℕ)) → List ℕ → ℕ → List ℕ
image_of pages file n = listed (byte_of pages file) 0 n

-- what a page was at the mark: as it is now, with what is kept of it put back; none where it was not a changed page
abbrev pub was : Option (Option (List Old)) → Option (List ℕ) → Option (List ℕ)
was None now = now
was (Some None) now = None
was (Some (Some olds)) now = option_map (back olds) now

-- What is kept of a page covers a range: whatever stands there, the page was the same at the mark.
abbrev pub Covers : Option (Option (List Old)) → ℕ → ℕ → Type 0
Covers kept from upto =
    (page page' : List ℕ) → length page ≡ 65536 → length page' ≡ 65536 → ((i : ℕ) → (i < from) ⊎ (upto ≤ i) → slice_index page i ≡ slice_index page' i) → was kept (Some page) ≡ was kept (Some page')

-- the part of a range of the image that lies in a page
abbrev pub part_from : ℕ → ℕ → ℕ
part_from place number = place - number * 65536

abbrev pub part_upto : ℕ → ℕ → ℕ
part_upto end number = min (end - number * 65536) 65536

-- each of the first n bytes that lies in no changed page stands in the file, which has so many bytes
abbrev pub Backed : (ℕ → Option (List ℕ)) → ℕ → ℕ → Type 0
Backed pages long n = (i : ℕ) → i < n → pages (i / 65536) ≡ None → i < long

-- a page shows what stands in the file, as far as the first n bytes go
abbrev pub Shows : List ℕ → ℕ → ℕ → List ℕ → Type 0
Shows file n number page = (j : ℕ) → j < 65536 → number * 65536 + j < n → slice_index page j ≡ slice_index file (number * 65536 + j)

-- What is kept of a page serves for it: bytes that show what stands in the file, or none, where the device lends those of the file.
abbrev pub Serves : Bool → List ℕ → ℕ → ℕ → Option (List ℕ) → Type 0
Serves lends file n number kept = (kept ≡ None → lends ≡ true) × ((page : List ℕ) → kept ≡ Some page → Shows file n number page)

-- each page that is kept beside the changed ones is none of them, and serves
abbrev pub AllServe : Bool → (ℕ → Option (List ℕ)) → List ℕ → ℕ → List (ℕ × Option (List ℕ)) → Type 0
AllServe lends pages file n clean = (number : ℕ) → (kept : Option (List ℕ)) → lookup (nat_eq number) clean ≡ Some kept → (pages number ≡ None) × Serves lends file n number kept

-- a count of bytes, where it is told, rose by at most n
abbrev pub TakesAtMost : Option ℕ → Option ℕ → ℕ → Type 0
TakesAtMost None now n = Unit {0}
TakesAtMost (Some before) None n = ⊥
TakesAtMost (Some before) (Some now) n = now ≤ before + n
