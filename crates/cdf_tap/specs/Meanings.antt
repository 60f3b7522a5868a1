-- What a tap of code means, and what a report makes of the taps of a list (own).
use Rattle.std.specs.Prelude.{ℕ, Bool, not, ◌&&◌, if◌then◌else◌, List, map}
use Rattle.std.specs.List.{filter, flat_map}
use Rattle.cdf_model.specs.declared.event.Event.{Event}
use Rattle.cdf_model.specs.Taps.{Tap, is_named}

-- what never changes of a tap, and its state
pub record Meaning : Type 0 where
  pub own : Tap
  pub state : List ℕ

-- a tap that has seen nothing
abbrev pub fresh : Tap → Meaning
fresh own = record { own = own; state = own.first }

abbrev pub with_state : Meaning → List ℕ → Meaning
with_state m s = record m { state = s }

-- the tap in its first state
abbrev pub cleared : Meaning → Meaning
cleared m = with_state m m.own.first

-- the tap after an event
abbrev pub moved : Meaning → Event → Meaning
moved m event = with_state m (m.own.after m.state event)

-- whether its state brings it to its end
abbrev pub is_final : Meaning → Bool
is_final m = m.own.is_final m.state

-- the text of its state
abbrev pub text_of : Meaning → List ℕ
text_of m = m.own.text m.state

abbrev pub has_name : List ℕ → Meaning → Bool
has_name name m = is_named name m.own

-- what never changes of the taps of a list
abbrev pub kinds_of : List Meaning → List Tap
kinds_of ms = map (λ m. m.own) ms

-- the taps of other names, with their states
abbrev pub others_of : List ℕ → List Meaning → List Meaning
others_of name ms = filter (λ m. not (has_name name m)) ms

-- the list with the taps of a name in their first states
abbrev pub cleared_named : List ℕ → List Meaning → List Meaning
cleared_named name ms = map (λ m. if has_name name m then cleared m else m) ms

-- the texts of the taps of a name, one behind the other
abbrev pub texts_of : List ℕ → List Meaning → List ℕ
texts_of name ms = flat_map text_of (filter (has_name name) ms)

-- a tap and whether it came to its end, after an event is shown to those of a name that did not
abbrev pub shown_one : List ℕ → Event → Meaning × Bool → Meaning × Bool
shown_one name event (m, ended) = if has_name name m && not ended then (moved m event, is_final (moved m event)) else (m, ended)

-- the same of a list of taps
abbrev pub shown : List ℕ → Event → List (Meaning × Bool) → List (Meaning × Bool)
shown name event taps = map (shown_one name event) taps

-- the taps that did not come to their end
abbrev pub left_of : List (Meaning × Bool) → List Meaning
left_of taps = map (λ tap. tap.0) (filter (λ tap. not tap.1) taps)
