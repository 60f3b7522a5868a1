-- Words that are being gathered (own).
use Rattle.std.specs.Prelude.{ℕ, List, [], ◌∷◌, ◌++◌}

-- the words that have ended, and the bytes of the last one, which has not
pub record Gathered : Type 0 where
  pub words : List (List ℕ)
  pub last : List ℕ

abbrev pub nothing_gathered : Gathered
nothing_gathered = record { words = []; last = [] }

abbrev pub longer : Gathered → List ℕ → Gathered
longer g bytes = record g { last = g.last ++ bytes }

abbrev pub ended : Gathered → Gathered
ended g = record { words = g.words ++ g.last ∷ []; last = [] }
