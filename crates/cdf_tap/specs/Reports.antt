-- What a report makes of the taps of a list (own).
use Rattle.std.specs.Prelude.{ℕ, Bool, false, List, map}
use Rattle.std.specs.List.{fold}
use Rattle.cdf_model.specs.declared.event.Event.{Event}
use Rattle.cdf_tap.specs.Meanings.{Meaning, cleared_named, shown_one}

-- the taps of a name begin anew, and none came to its end
abbrev pub begun : List ℕ → List Meaning → List (Meaning × Bool)
begun name ms = map (λ m. (m, false)) (cleared_named name ms)

-- each tap and whether it came to its end, after these events
unfoldable pub after_all : List ℕ → List Event → List (Meaning × Bool) → List (Meaning × Bool)
after_all name events taps = map (λ tap. fold (λ one event. shown_one name event one) tap events) taps
