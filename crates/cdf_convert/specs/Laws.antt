-- What is asked of a list that is the image of a file (own).
use Rattle.std.specs.Prelude.{◌<◌, ℕ, List, slice_index}

-- each element is a byte
abbrev pub IsOfBytes : List ℕ → Type 0
IsOfBytes b = (i : ℕ) → slice_index b i < 256
