-- The content of a data set as a list of events: the head; each attribute with its entries; each variable with its stored records; the counts of what was shown (own).
use Rattle.std.specs.Prelude.{ℕ, ◌+◌, List, [], ◌∷◌, ◌++◌, map, length, if◌then◌else◌}
use Rattle.std.specs.List.{enumerate_from, flat_map, sum}
use Rattle.std.specs.Option.{is_some, unwrap_or}
use Rattle.cdf_model.specs.declared.event.Event.{Event}
use Rattle.cdf_model.specs.declared.event.Event.TheVariants as events
use Rattle.cdf_model.specs.declared.kinds.EntryKind.{EntryKind}
use Rattle.cdf_model.specs.declared.kinds.EntryKind.TheVariants.{G, R, Z}
use Rattle.cdf_model.specs.declared.kinds.Kind.{Kind}
use Rattle.cdf_model.specs.declared.kinds.Kind.TheVariants as kinds
use Rattle.cdf_model.specs.declared.kinds.Scope.{Scope}
use Rattle.cdf_model.specs.AttributeSteps.{is_global}
use Rattle.cdf_model.specs.DataSet.{Attribute, DataSet, Entry, Variable, head_of}

abbrev pub entry_event : EntryKind → ℕ × Entry → Event
entry_event kind (num, entry) = events.Entry kind num entry.type entry.elems entry.bytes

-- an entry in `g` belongs to the file or to an r variable, as the scope says
abbrev pub kind_in : Scope → EntryKind
kind_in scope = if is_global scope then G else R

abbrev pub attribute_event : ℕ → Attribute → Event
attribute_event n a = events.Attr n a.name a.scope

abbrev pub attribute_events : ℕ × Attribute → List Event
attribute_events (n, a) = attribute_event n a ∷ map (entry_event (kind_in a.scope)) a.g ++ map (entry_event Z) a.z

abbrev pub record_event : Variable → ℕ × List ℕ → Event
record_event v (num, bytes) = events.Rec num v.type v.elems bytes

abbrev pub variable_event : Kind → ℕ → Variable → Event
variable_event kind n v = events.Var kind n v.name v.type v.elems v.vary v.dims v.varys v.sparse v.rle v.blocking v.max_rec (is_some v.pad) (unwrap_or v.pad [])

abbrev pub variable_events : Kind → ℕ × Variable → List Event
variable_events kind (n, v) = variable_event kind n v ∷ map (record_event v) v.recs

-- the events of each item, by its number
abbrev pub each : {A : Type 0} → (ℕ × A → List Event) → List A → List Event
each shown items = flat_map shown (enumerate_from 0 items)

abbrev pub record_count : List Variable → ℕ
record_count vs = sum (map (λ v. length v.recs) vs)

abbrev pub end_event : DataSet → Event
end_event d = events.End (length d.attributes) (length d.r_variables + length d.z_variables) (record_count d.r_variables + record_count d.z_variables)

abbrev pub events_of : DataSet → List Event
events_of d =
    events.Head (head_of d)
    ∷ each attribute_events d.attributes
    ++ each (variable_events kinds.R) d.r_variables
    ++ each (variable_events kinds.Z) d.z_variables
    ++ end_event d ∷ []
