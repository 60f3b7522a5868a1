-- What a write leaves of a list of bytes.
use Rattle.std.specs.Prelude.{ℕ, List, ◌+◌, ◌++◌, length, take, drop}

-- the list with these bytes written over those from a place on; they fit
unfoldable pub put : List ℕ → ℕ → List ℕ → List ℕ
put b place xs = take place b ++ (xs ++ drop (place + length xs) b)
