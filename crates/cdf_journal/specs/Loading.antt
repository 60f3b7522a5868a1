-- How a log is read: its members, where they fit a file, and the ranges that they have (own).
use Rattle.std.specs.Prelude.{◌≡◌, ℕ, List, ◌++◌, length, map, Bool, true, false, if◌then◌else◌, Some, None, MatchOption}
use Rattle.std.specs.declared.option.Option.{Option}
use Rattle.std.specs.Option.{option_and_then}
use Rattle.cdf_journal.specs.declared.range.Range.{Range}
use Rattle.cdf_journal.specs.Log.{Member, filled, fits, journal_for, members_in, patched}

abbrev pub range_of : Member → Range
range_of (place, bytes) = record { place = place; count = length bytes }

-- so many members, read from some bytes, where they fit a file of so many bytes
abbrev pub fit_members : ℕ → ℕ → ℕ → List ℕ → Option (List Member)
fit_members reached new_length count bytes = option_and_then (λ members. if fits reached new_length members then Some members else None) (members_in count bytes)

-- they were written in order, and their ranges kept; or there are no such members
abbrev pub Patches : Option (List Member) → List ℕ → List Range → List ℕ → List Range → Bool → Type 0
Patches members file ranges file' ranges' is = MatchOption members (is ≡ false) (λ ms. (is ≡ true) × (file' ≡ patched file ms) × (ranges' ≡ ranges ++ map range_of ms))

-- a log is the journal of a file, which was filled from it, and its ranges kept; or it is none
abbrev pub Loads : List ℕ → List ℕ → List ℕ → List Range → Bool → Type 0
Loads log file file' ranges' is = MatchOption (journal_for file log) (is ≡ false) (λ body. (is ≡ true) × (file' ≡ filled file body) × (ranges' ≡ map range_of body.members))
