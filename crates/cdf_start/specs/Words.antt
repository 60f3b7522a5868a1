-- Which words ask for a log, and what else they ask for.
use Rattle.std.specs.Prelude.{List, None, Some, [], bytes_eq, codes, if◌then◌else◌, ℕ, ◌&&◌, ◌∷◌}
use Rattle.std.specs.declared.option.Option.{Option}
use Rattle.std.specs.Option.{option_and_then}
use Rattle.cdf_words.specs.Asking.{Asked, ask}

-- the words behind the one that asks for a log, where it is the first
abbrev pub behind_journal : List (List ℕ) → Option (List (List ℕ))
behind_journal [] = None
behind_journal (word ∷ words) = if bytes_eq word (codes "--journal") then Some words else None

-- the words of the run itself
abbrev pub run_words : List (List ℕ) → List (List ℕ)
run_words words = elim (behind_journal words) [ None ↦ words | Some rest ↦ rest ]

-- a run that needs its file: a new one that is not saved needs none
abbrev pub needing : Option Asked → Option Asked
needing None = None
needing (Some a) = if a.new && a.no_save then None else Some a

-- what is asked of a run over a file and its log, where the words ask for such a run
abbrev pub journal_asked : List (List ℕ) → Option Asked
journal_asked words = option_and_then (λ rest. needing (ask rest)) (behind_journal words)
