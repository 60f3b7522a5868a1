-- The state of the tap that counts.
use Rattle.std.specs.Prelude.{ℕ, List, [], ◌∷◌}
use Rattle.cdf_tap.specs.declared.counts.Counts.{Counts}

-- four counts in a row
abbrev pub listed : Counts → List ℕ
listed counts = counts.attrs ∷ counts.entries ∷ counts.vars ∷ counts.recs ∷ []
