-- The lines of a script (own).
use Rattle.std.specs.List.{flat_map, slice_split}
use Rattle.std.specs.Prelude.{ℕ, List, [], ◌∷◌, ◌++◌, map, length, Bool, true, false, ◌||◌, ◌==◌, nat_le, if◌then◌else◌, Some, None}
use Rattle.std.specs.declared.option.Option.{Option}
use Rattle.cdf_model.specs.Limits.{line_limit}

-- all but the last, and the last
abbrev pub parted : List (List ℕ) → List (List ℕ) × List ℕ
parted [] = ([], [])
parted (piece ∷ []) = ([], piece)
parted (piece ∷ more) = (piece ∷ (parted more).0, (parted more).1)

-- the lines that a newline ends, and the bytes after the last newline
abbrev pub split : List ℕ → List (List ℕ) × List ℕ
split text = parted (slice_split (λ b. b == 10) text)

-- bytes after the last newline are a line if there are any
abbrev pub last_line : List ℕ → List (List ℕ)
last_line [] = []
last_line (b ∷ rest) = (b ∷ rest) ∷ []

-- the bytes of a line; none of one that is too long
abbrev pub kept : List ℕ → Option (List ℕ)
kept line = if nat_le (length line) line_limit then Some line else None

-- the lines that a newline ends
abbrev pub whole_lines : List ℕ → List (Option (List ℕ))
whole_lines text = map kept (split text).0

-- all lines
abbrev pub lines : List ℕ → List (Option (List ℕ))
lines text = map kept ((split text).0 ++ last_line (split text).1)

-- spaces and tabs alone, or `#` after them
abbrev pub is_blank : List ℕ → Bool
is_blank [] = true
is_blank (b ∷ line) = if (b == 32) || (b == 9) then is_blank line else b == 35

-- no byte is a newline
abbrev pub is_one_line : List ℕ → Bool
is_one_line [] = true
is_one_line (b ∷ line) = if b == 10 then false else is_one_line line

-- lines, each with its newline, and what stands after them
abbrev pub joined : List (List ℕ) → List ℕ → List ℕ
joined ls rest = flat_map (λ line. line ++ 10 ∷ []) ls ++ rest
