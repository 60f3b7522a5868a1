-- Which records of an image have an owner, as they are told of one after the other.
use Rattle.std.specs.Prelude.{◌≡◌, ◌≤◌, ◌<◌, ℕ, List, ◌++◌, length, get_or, Bool, false, if◌then◌else◌, Some, None}
use Rattle.std.specs.declared.option.Option.{Option}
use Rattle.cdf_format.specs.Owners.{times}
use Rattle.cdf_format.specs.Tiles.{In}
use Rattle.cdf_structure.specs.declared.owners.Owners.{Owners}

-- how many owners a mark stands for
abbrev pub count_of : Bool → ℕ
count_of has_owner = if has_owner then 1 else 0

-- there is a mark for each of these records
abbrev pub IsFor : List ℕ → Owners → Type 0
IsFor tiles owners = length owners.has_owner.items ≡ length tiles

-- A record stands in the list as often as its mark says; or this record stands there more than once, and no mark says too much.
abbrev pub Marks : List ℕ → List ℕ → List Bool → Option ℕ → Type 0
Marks tiles owned marks None = (j : ℕ) → j < length tiles → times (get_or tiles j 0) owned ≡ count_of (get_or marks j false)
Marks tiles owned marks (Some place) = In place tiles × (2 ≤ times place owned) × ((j : ℕ) → j < length tiles → count_of (get_or marks j false) ≤ times (get_or tiles j 0) owned)

-- what is known of the owners of these records, of which the list has those that are owned, once for each owner
abbrev pub KnowsOwned : List ℕ → List ℕ → Owners → Type 0
KnowsOwned tiles owned owners = Marks tiles owned owners.has_owner.items owners.shared

-- what was known of one list of owned records is known of the list with these more
abbrev pub IsToldOf : List ℕ → List ℕ → Owners → Owners → Type 0
IsToldOf tiles more old new = (owned : List ℕ) → KnowsOwned tiles owned old → KnowsOwned tiles (owned ++ more) new
