-- The state of the tap that looks for a z variable without a VAR_TYPE.
use Rattle.std.specs.Prelude.{ℕ, List, ◌∷◌, Bool, true, false}
use Rattle.cdf_model.specs.ShippedTaps.{inside, lacking, outside}
use Rattle.cdf_tap.specs.declared.lacking.Found.{Found}
use Rattle.cdf_tap.specs.declared.lacking.Found.TheVariants as found

-- the mark, and behind it the numbers known so far, or the name of the variable
abbrev pub state_of : Found → List ℕ → List ℕ
state_of found.Inside known = inside ∷ known
state_of found.Outside known = outside ∷ known
state_of (found.Lacking variable) known = lacking ∷ variable.name.items

abbrev pub is_inside : Found → Bool
is_inside found.Inside = true
is_inside other = false
