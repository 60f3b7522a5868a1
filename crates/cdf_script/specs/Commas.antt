-- Parts of a text that commas separate.
use Rattle.std.specs.Prelude.{◌≡◌, ℕ, ◌<◌, ◌==◌, List, [], ◌∷◌, length, Some, None}
use Rattle.std.specs.declared.option.Option.{Option}
use Rattle.std.specs.List.{slice_split}

abbrev pub parts : List ℕ → List (List ℕ)
parts text = slice_split (λ b. b == 44) text

-- the first part, and what stands behind its comma if there is one
abbrev pub SplitsFirst : List ℕ → List ℕ → Option (List ℕ) → Type 0
SplitsFirst text part None = parts text ≡ part ∷ []
SplitsFirst text part (Some behind) = (parts text ≡ part ∷ parts behind) × (length behind < length text)
