-- What a walk over the events of a data set gave so far, and what it gives next (own).
use Rattle.std.specs.Prelude.{ℕ, ◌≡◌, ◌≤◌, ◌+◌, List, [], ◌∷◌, length, drop, Some, None}
use Rattle.std.specs.declared.option.Option.{Option}
use Rattle.cdf_model.specs.declared.event.Event.{Event}
use Rattle.cdf_model.specs.declared.event.Event.TheVariants as events
use Rattle.cdf_model.specs.declared.spot.Spot.{Spot}
use Rattle.cdf_model.specs.DataSet.{DataSet}
use Rattle.cdf_model.specs.Events.{events_of, record_count}
use Rattle.cdf_model.specs.Spots.{rest}

-- a walk that stands here has given the first k events
pub record Gave (d : DataSet) (spot : Spot) (k : ℕ) : Type 0 where
  pub enough : k ≤ length (events_of d)
  pub left : rest d spot ≡ drop k (events_of d)

-- what a walk gives next, and where it stands then
abbrev pub Gives : DataSet → Spot → Option Event → Spot → Type 0
Gives d spot None after = (rest d spot ≡ []) × (after ≡ spot)
Gives d spot (Some event) after = rest d spot ≡ event ∷ rest d after

-- how many records an event shows
abbrev pub records_of : Event → ℕ
records_of (events.Rec num t elems bytes) = 1
records_of other = 0

-- how many records are among events
abbrev pub records_among : List Event → ℕ
records_among [] = 0
records_among (event ∷ more) = records_of event + records_among more

-- how many records a data set has
abbrev pub all_records : DataSet → ℕ
all_records d = record_count d.r_variables + record_count d.z_variables

-- the records that a walk counted and those that are left are all records
abbrev pub Counts : DataSet → Spot → ℕ → Type 0
Counts d spot counted = counted + records_among (rest d spot) ≡ all_records d
