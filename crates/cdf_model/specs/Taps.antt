-- Taps: at a report each tap of a name is shown the events of the data set, and says a text of them (own).
use Rattle.std.specs.Prelude.{ℕ, List, Bool, true, false, not, ◌&&◌, bytes_eq}
use Rattle.std.specs.List.{filter, flat_map, fold, list_any}
use Rattle.cdf_model.specs.declared.event.Event.{Event}
use Rattle.cdf_model.specs.DataSet.{DataSet}
use Rattle.cdf_model.specs.Events.{events_of}

-- What never changes of a tap: its name, the state that it begins with, its state after an event, the text of a state, and in which states it is at its end.
pub record Tap : Type 0 where
  pub name : List ℕ
  pub first : List ℕ
  pub after : List ℕ → Event → List ℕ
  pub text : List ℕ → List ℕ
  pub is_final : List ℕ → Bool

-- a tap that sees one event more: its state, and whether it came to its end, behind which it sees no more
abbrev pub seen : Tap → List ℕ × Bool → Event → List ℕ × Bool
seen tap (state, true) event = (state, true)
seen tap (state, false) event = (tap.after state event, tap.is_final (tap.after state event))

-- its state once it was shown these events in turn, and whether it came to its end
abbrev pub shown_to : Tap → List Event → List ℕ × Bool
shown_to tap shown = fold (seen tap) (tap.first, false) shown

-- its state once it was shown a data set
abbrev pub state_at_end : DataSet → Tap → List ℕ
state_at_end d tap = (shown_to tap (events_of d)).0

-- whether it came to its end while it was shown a data set
abbrev pub comes_to_end : DataSet → Tap → Bool
comes_to_end d tap = (shown_to tap (events_of d)).1

-- its state behind all of these events, whether it ends or not
abbrev pub state_after : Tap → List Event → List ℕ
state_after tap shown = fold tap.after tap.first shown

abbrev pub is_named : List ℕ → Tap → Bool
is_named name tap = bytes_eq tap.name name

abbrev pub has_tap : List Tap → List ℕ → Bool
has_tap taps name = list_any (is_named name) taps

-- the texts of the taps of a name, one behind the other
abbrev pub told : List Tap → List ℕ → DataSet → List ℕ
told taps name d = flat_map (λ tap. tap.text (state_at_end d tap)) (filter (is_named name) taps)

-- a tap of the name that came to its end goes
abbrev pub goes_on : List ℕ → DataSet → Tap → Bool
goes_on name d tap = not (is_named name tap && comes_to_end d tap)

-- the taps that are left after a report
abbrev pub left_after : List Tap → List ℕ → DataSet → List Tap
left_after taps name d = filter (goes_on name d) taps
