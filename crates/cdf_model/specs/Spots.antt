-- Which events are left where a walk stands (own).
use Rattle.std.specs.Prelude.{ℕ, ◌+◌, List, [], ◌∷◌, ◌++◌, map, drop, not, nat_lt, find, None, Some}
use Rattle.std.specs.declared.option.Option.{Option}
use Rattle.std.specs.List.{enumerate_from, filter, flat_map, slice_get}
use Rattle.cdf_model.specs.declared.event.Event.{Event}
use Rattle.cdf_model.specs.declared.kinds.EntryKind.TheVariants.{Z}
use Rattle.cdf_model.specs.declared.kinds.Kind.{Kind}
use Rattle.cdf_model.specs.declared.kinds.Kind.TheVariants as kinds
use Rattle.cdf_model.specs.DataSet.{Attribute, DataSet, Variable}
use Rattle.cdf_model.specs.Events.{entry_event, kind_in, attribute_events, record_event, variable_events, end_event, events_of}
use Rattle.cdf_model.specs.Names.{variables_of}
use Rattle.cdf_model.specs.declared.spot.Spot.{Spot}
use Rattle.cdf_model.specs.declared.spot.Spot.TheVariants as spots

-- the events of the items from a number on
abbrev pub each_from : {A : Type 0} → (ℕ × A → List Event) → ℕ → List A → List Event
each_from shown n items = flat_map shown (enumerate_from n (drop n items))

abbrev pub z_from : DataSet → ℕ → List Event
z_from d n = each_from (variable_events kinds.Z) n d.z_variables ++ end_event d ∷ []

abbrev pub r_from : DataSet → ℕ → List Event
r_from d n = each_from (variable_events kinds.R) n d.r_variables ++ z_from d 0

abbrev pub variables_from : DataSet → Kind → ℕ → List Event
variables_from d kinds.R n = r_from d n
variables_from d kinds.Z n = z_from d n

abbrev pub attributes_from : DataSet → ℕ → List Event
attributes_from d n = each_from attribute_events n d.attributes ++ r_from d 0

-- the entries of an attribute: of `g` behind so many, and of `z` behind so many
abbrev pub own_from : ℕ → Option Attribute → List Event
own_from i None = []
own_from i (Some a) = map (entry_event (kind_in a.scope)) (drop i a.g) ++ map (entry_event Z) a.z

abbrev pub z_entries_from : ℕ → Option Attribute → List Event
z_entries_from i None = []
z_entries_from i (Some a) = map (entry_event Z) (drop i a.z)

-- the items whose numbers are at least so great
abbrev pub from_number : {A : Type 0} → ℕ → List (ℕ × A) → List (ℕ × A)
from_number n items = filter (λ pair. not (nat_lt pair.0 n)) items

-- the first of them
abbrev pub first_from : {A : Type 0} → ℕ → List (ℕ × A) → Option (ℕ × A)
first_from n items = find (λ pair. not (nat_lt pair.0 n)) items

abbrev pub records_from : ℕ → Option Variable → List Event
records_from n None = []
records_from n (Some v) = map (record_event v) (from_number n v.recs)

unfoldable pub rest : DataSet → Spot → List Event
rest d spots.Head = events_of d
rest d (spots.Attr n) = attributes_from d n
rest d (spots.OwnEntry n i) = own_from i (slice_get d.attributes n) ++ attributes_from d (n + 1)
rest d (spots.ZEntry n i) = z_entries_from i (slice_get d.attributes n) ++ attributes_from d (n + 1)
rest d (spots.Var kind n) = variables_from d kind n
rest d (spots.Rec kind n from) = records_from from (slice_get (variables_of d kind) n) ++ variables_from d kind (n + 1)
rest d spots.End = end_event d ∷ []
rest d spots.Behind = []
