-- An entry as it is shown (own).
use Rattle.std.specs.Prelude.{ℕ, List}
use Rattle.cdf_format.specs.Content.{entry_of}
use Rattle.cdf_format.specs.Shape.{Each}
use Rattle.cdf_model.specs.DataSet.{Attribute, Entry}
use Rattle.cdf_model.specs.Whole.{IsWhole}

-- the entry of a number that stands at a place, with its number
abbrev pub numbered_entry : List ℕ → ℕ × ℕ → ℕ × Entry
numbered_entry b (num, place) = (num, entry_of b place)

-- the value of an entry has a byte for each of its elements' bytes, and no more
abbrev pub IsWholeEntry : ℕ × Entry → Type 0
IsWholeEntry (num, entry) = IsWhole entry.type entry.elems entry.bytes

abbrev pub HasWholeEntries : Attribute → Type 0
HasWholeEntries a = Each IsWholeEntry a.g × Each IsWholeEntry a.z
