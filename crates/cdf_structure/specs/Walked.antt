-- What a walk from record to record answers.
use Rattle.std.specs.Prelude.{◌≡◌, ◌≢◌, ◌<◌, ℕ, List, [], ◌∷◌, ◌++◌, length, get_or, true, false, not, ◌&&◌, Ok, Err, Some, None}
use Rattle.std.specs.declared.option.Option.{Option}
use Rattle.std.specs.declared.result.Result.{Result}
use Rattle.std.specs.declared.vec.Vec.{Vec}
use Rattle.std.specs.declared.alloc.Global.{Global}
use Rattle.cdf_format.specs.Chains.{is_in, is_linkable, next_of}
use Rattle.cdf_format.specs.Fields.{size_at}
use Rattle.cdf_format.specs.Tiles.{is_tile}
use Rattle.cdf_format.specs.Walks.{Walk, whole, stuck}
use Rattle.cdf_structure.specs.Met.{Agrees}
use Rattle.cdf_structure.specs.declared.met.Met.{Met}

-- the records of the walk, or the place where it leads wrong
abbrev pub Walks : Walk → Result (Vec ℕ Global) ℕ → Type 0
Walks walk (Ok records) = walk ≡ whole records.items
Walks walk (Err place) = (met : List ℕ) × (walk ≡ stuck met place)

-- A chain goes on to a place that it has not met, which is met then, and from there by its link; or it may not go on to it.
abbrev pub Meets : List ℕ → List ℕ → ℕ → Met → Met → ℕ → Option ℕ → Type 0
Meets b ts type old new place (Some next) = ((is_linkable b ts type place && not (is_in place old.list.items)) ≡ true) × (next ≡ next_of b place) × (new.list.items ≡ old.list.items ++ place ∷ []) × Agrees new
Meets b ts type old new place None = (is_linkable b ts type place && not (is_in place old.list.items)) ≡ false

-- the size of the record that stands at a place, if one does
abbrev pub SizesTile : List ℕ → ℕ → Option ℕ → Type 0
SizesTile b place (Some size) = (is_tile b place ≡ true) × (size ≡ size_at b place)
SizesTile b place None = is_tile b place ≡ false

-- each is greater than those before it
abbrev pub Climbs : List ℕ → Type 0
Climbs xs = (i j : ℕ) → i < j → j < length xs → get_or xs i 0 < get_or xs j 0

-- where a number stands, if it does
abbrev pub StandsAt : List ℕ → ℕ → Option ℕ → Type 0
StandsAt xs n None = (i : ℕ) → i < length xs → get_or xs i 0 ≢ n
StandsAt xs n (Some i) = (i < length xs) × (get_or xs i 0 ≡ n)
