-- A tap for tests.
use Rattle.std.specs.Prelude.{ℕ, List, [], ◌∷◌, ◌++◌, ◌==◌, length}
use Rattle.cdf_model.specs.Taps.{Tap}

-- it says a dot for each event that it saw, and comes to its end behind so many
abbrev pub dots : List ℕ → ℕ → Tap
dots name most = record { name = name; first = []; after = λ seen event. seen ++ 46 ∷ []; text = λ seen. seen; is_final = λ seen. length seen == most }
