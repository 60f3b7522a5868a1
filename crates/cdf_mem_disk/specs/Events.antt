-- What calls did to the parts of a disk in memory, and what a crash may leave of them (own).
use Rattle.std.specs.Prelude.{◌≡◌, ◌≤◌, ℕ, ◌+◌, ◌-◌, List, [], ◌∷◌, length, take, Bool, true, false, nat_le, nat_lt, ◌&&◌, if◌then◌else◌}
use Rattle.cdf_base.specs.Bytes.{put}
use Rattle.cdf_journal.specs.declared.disk.Part.{Part}
use Rattle.cdf_journal.specs.Crashes.{InPart, Parts, Shortened, Torn, part_of, with_part}

-- bytes were to be written into a part from a place on, or a part was to be cut to a length, and it was done, or refused; or both
-- parts were stored
pub data Event : Type 0 where
  Wrote : Part → ℕ → List ℕ → Bool → Event
  Cut : Part → ℕ → Bool → Event
  Stored : Event

-- what reads give after an event; what was refused changed nothing
abbrev pub after_event : Parts → Event → Parts
after_event parts (Wrote part place bytes true) = with_part parts part (put (part_of parts part) place bytes)
after_event parts (Wrote part place bytes false) = parts
after_event parts (Cut part n true) = with_part parts part (take n (part_of parts part))
after_event parts (Cut part n false) = parts
after_event parts Stored = parts

abbrev pub after_events : Parts → List Event → Parts
after_events parts [] = parts
after_events parts (event ∷ events) = after_events (after_event parts event) events

-- no write left a gap
abbrev pub fits_parts : Parts → Event → Bool
fits_parts parts (Wrote part place bytes done) = nat_le place (length (part_of parts part))
fits_parts parts (Cut part n done) = true
fits_parts parts Stored = true

abbrev pub are_made : Parts → List Event → Bool
are_made parts [] = true
are_made parts (event ∷ events) = fits_parts parts event && are_made (after_event parts event) events

-- What a crash may leave after an event, by what it might leave before and what reads gave. A write tears its range and a cut any
-- length in between, also where it was refused; once the parts were stored, what reads give is left.
abbrev pub leaves_event : (Parts → Type 0) → Parts → Event → Parts → Type 0
leaves_event leaves parts (Wrote part place bytes done) c = (d : Parts) × leaves d × InPart part (Torn place (length bytes)) d c
leaves_event leaves parts (Cut part n done) c = (d : Parts) × leaves d × InPart part (Shortened n) d c
leaves_event leaves parts Stored c = c ≡ parts

abbrev pub leaves_events : (Parts → Type 0) → Parts → List Event → Parts → Type 0
leaves_events leaves parts [] c = leaves c
leaves_events leaves parts (event ∷ events) c = leaves_events (leaves_event leaves parts event) (after_event parts event) events c

-- from parts that were stored
abbrev pub may_leave_after : Parts → List Event → Parts → Type 0
may_leave_after base events c = leaves_events (λ d. d ≡ base) base events c

-- at some moment from this one on
pub record LeftSince (base : Parts) (events : List Event) (t : ℕ) (c : Parts) : Type 0 where
  pub moment : ℕ
  pub from : t ≤ moment
  pub within : moment ≤ length events
  pub left : may_leave_after base (take moment events) c

-- ---- a crash that keeps the first writes and cuts since the parts were stored

abbrev pub is_stored : Event → Bool
is_stored (Wrote part place bytes done) = false
is_stored (Cut part n done) = false
is_stored Stored = true

abbrev pub is_change : Event → Bool
is_change (Wrote part place bytes done) = done
is_change (Cut part n done) = done
is_change Stored = false

-- Up to which of the events they are kept: `end` of those that came before are, `at` came before, and of the changes that come next
-- so many are kept.
abbrev pub kept_end : (keep at end left : ℕ) → List Event → ℕ
kept_end keep at end left [] = end
kept_end keep at end left (event ∷ events) =
    if is_stored event then kept_end keep (at + 1) (at + 1) keep events
    else (if is_change event && nat_lt 0 left then kept_end keep (at + 1) (at + 1) (left - 1) events
    else kept_end keep (at + 1) end left events)

abbrev pub crashed : ℕ → Parts → List Event → Parts
crashed keep base events = after_events base (take (kept_end keep 0 0 keep events) events)
