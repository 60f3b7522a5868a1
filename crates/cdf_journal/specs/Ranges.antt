-- The ranges of a file that were written, and the members that they make (own).
use Rattle.std.specs.Prelude.{◌≡◌, ◌<◌, ◌≤◌, ◌⊎◌, ℕ, ◌+◌, ◌-◌, List, [], ◌∷◌, length, map, take, drop, slice_index, Bool, nat_le, ◌&&◌, max, min}
use Rattle.cdf_journal.specs.declared.range.Range.{Range}
use Rattle.cdf_journal.specs.Log.{Body, Member}

-- what the file has in a range, or in the part of it before the file's end
abbrev pub member_of : List ℕ → Range → Member
member_of file range = (min range.place (length file), take (min range.count (length file - min range.place (length file))) (drop (min range.place (length file)) file))

abbrev pub members_of : List ℕ → List Range → List Member
members_of file ranges = map (member_of file) ranges

-- a file that is to have these bytes, of which these ranges are new
abbrev pub body_of : List ℕ → List Range → Body
body_of file ranges = record { new_length = length file; members = members_of file ranges }

-- ranges that were written in order into a file of so many bytes: none left a gap, and it reached so many
abbrev pub reaches : ℕ → ℕ → List Range → Bool
reaches reached most [] = nat_le most reached
reaches reached most (range ∷ ranges) = nat_le range.place reached && reaches (max reached (range.place + range.count)) most ranges

-- one of the ranges has the byte at i
abbrev pub is_in : ℕ → List Range → Type 0
is_in i [] = ⊥
is_in i (range ∷ ranges) = ((range.place ≤ i) × (i < range.place + range.count)) ⊎ is_in i ranges

-- a file has its old bytes but in these ranges, which have all that is behind the old end
abbrev pub IsOldBut : List Range → List ℕ → List ℕ → Type 0
IsOldBut ranges old file = (i : ℕ) → i < length file → (is_in i ranges → ⊥) → (i < length old) × (slice_index file i ≡ slice_index old i)
