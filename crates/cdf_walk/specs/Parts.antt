-- What is asked of a data set by a walk: one part at a time, by its number (own).
use Rattle.std.specs.Prelude.{ℕ, ◌≡◌, ◌+◌, List, ◌∷◌, [], Some, None}
use Rattle.std.specs.declared.option.Option.{Option}
use Rattle.std.specs.declared.result.Result.{Result}
use Rattle.std.specs.List.{slice_get}
use Rattle.std.specs.Option.{option_and_then, option_map}
use Rattle.cdf_area.specs.declared.area.AreaError.{AreaError}
use Rattle.cdf_area.specs.declared.area.AreaError.TheVariants.{Fault}
use Rattle.cdf_base.specs.Causes.{HasCauseOf}
use Rattle.cdf_model.specs.declared.event.Event.{Event}
use Rattle.cdf_model.specs.declared.event.Event.TheVariants as events
use Rattle.cdf_model.specs.declared.kinds.EntryKind.TheVariants.{Z}
use Rattle.cdf_model.specs.declared.kinds.Kind.{Kind}
use Rattle.cdf_model.specs.DataSet.{Attribute, DataSet, Variable}
use Rattle.cdf_model.specs.Events.{entry_event, kind_in, record_event, variable_event}
use Rattle.cdf_model.specs.Names.{variables_of}
use Rattle.cdf_model.specs.Spots.{from_number}
use Rattle.cdf_walk.specs.declared.parts.Found.{Found}

-- the data set that is told stays and what else no call changes, and a fault has its cause
pub record Tells {P U T : Type 0} (told_of : P → DataSet) (under_of : P → U) (faults_of : P → ℕ) (old new : P) (result : Result T AreaError) : Type 0 where
  pub told : told_of new ≡ told_of old
  pub under : under_of new ≡ under_of old
  pub cause : HasCauseOf Fault (faults_of old) (faults_of new) result

-- a number behind that of a part fits 32 bits
abbrev pub number_limit : ℕ
number_limit = 0xffffffff

-- the event of the attribute of a number, if there is one
abbrev pub attribute_event : ℕ → Attribute → Event
attribute_event n a = events.Attr n a.name a.scope

abbrev pub attribute_part : DataSet → ℕ → Option Event
attribute_part d n = option_map (attribute_event n) (slice_get d.attributes n)

-- that of an entry of the file or of an r variable, behind so many of its attribute
abbrev pub own_part : DataSet → ℕ → ℕ → Option Event
own_part d n i = option_and_then (λ a. option_map (entry_event (kind_in a.scope)) (slice_get a.g i)) (slice_get d.attributes n)

-- that of an entry of a z variable
abbrev pub z_part : DataSet → ℕ → ℕ → Option Event
z_part d n i = option_and_then (λ a. option_map (entry_event Z) (slice_get a.z i)) (slice_get d.attributes n)

abbrev pub variable_part : DataSet → Kind → ℕ → Option Event
variable_part d kind n = option_map (variable_event kind n) (slice_get (variables_of d kind) n)

-- this is the first record from a number on, if there is one
abbrev pub IsFirst : Variable → ℕ → Option Found → Type 0
IsFirst v from (Some found) = (bytes : List ℕ) × (from_number from v.recs ≡ (found.num, bytes) ∷ from_number (found.num + 1) v.recs) × (found.event ≡ record_event v (found.num, bytes))
IsFirst v from None = from_number from v.recs ≡ []

-- a variable that there is not has none
abbrev pub IsFirstOf : Option Variable → ℕ → Option Found → Type 0
IsFirstOf (Some v) from o = IsFirst v from o
IsFirstOf None from None = Unit {0}
IsFirstOf None from (Some found) = ⊥
