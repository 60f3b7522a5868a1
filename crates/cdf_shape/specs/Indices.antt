-- Two indices of a value.
use Rattle.std.specs.Prelude.{◌≢◌, ℕ, List, ◌∷◌, Bool, true, false, ◌⊎◌}

-- they differ in a dimension that varies
abbrev pub Differ : List ℕ → List ℕ → List Bool → Type 0
Differ (i ∷ index) (j ∷ other) (true ∷ varys) = (i ≢ j) ⊎ Differ index other varys
Differ (i ∷ index) (j ∷ other) (false ∷ varys) = Differ index other varys
Differ index other varys = ⊥
