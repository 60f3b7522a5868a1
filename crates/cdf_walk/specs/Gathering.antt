-- Texts that are gathered before they are written (own).
use Rattle.std.specs.Prelude.{◌≡◌, ℕ, List, ◌++◌}
use Rattle.std.specs.declared.option.Option.{Option}
use Rattle.std.specs.Io.KnownBytes.{Appends}

-- the front of a text was written, and the rest of it is gathered
abbrev pub Gathers : Option (List ℕ) → List ℕ → Option (List ℕ) → List ℕ → Type 0
Gathers was text now gathered = (front : List ℕ) × (front ++ gathered ≡ text) × Appends was now front
