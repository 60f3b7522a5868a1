-- A table of names: a list of distinct names, each a list of bytes.
use Rattle.std.specs.Prelude.{ℕ, Bool, List, [], Option, bytes_eq, position}
use Rattle.std.specs.List.{list_any, swap_remove}

-- whether one of them is this name
abbrev pub has_name : List (List ℕ) → List ℕ → Bool
has_name names name = list_any (bytes_eq name) names

-- the number of this name: how many stand before it
abbrev pub number_of : List (List ℕ) → List ℕ → Option ℕ
number_of names name = position (bytes_eq name) names

-- the names without number i, which the last one takes
abbrev pub last_to : List (List ℕ) → ℕ → List (List ℕ)
last_to names i = swap_remove names i []
