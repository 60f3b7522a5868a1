-- The events of a good image's data set can be shown, since their values are whole, and there are few records in it.
use Rattle.std.proofs.Common.{List, None, Option, Some, [], arith, length, map, suc, zero, ℕ, ◌*◌, ◌++◌, ◌+◌, ◌<◌, ◌^◌, ◌∷◌, ◌≡◌, ◌≤◌}
use Rattle.std.proofs.lemmas.List.Sums.{sum_by-cons}
use Rattle.std.specs.List.{All, enumerate_from, flat_map}
use Rattle.std.specs.Option.{is_some, unwrap_or}
use Rattle.std.specs.Prelude.{IfSome}
use Rattle.cdf_attrs.proofs.WholeEntries.{entries_whole}
use Rattle.cdf_attrs.specs.Showing.{HasWholeEntries, IsWholeEntry}
use Rattle.cdf_format.proofs.ShapeLemmas.{Each-append}
use Rattle.cdf_format.specs.Content.{content}
use Rattle.cdf_format.specs.Shape.{Each}
use Rattle.cdf_format.specs.WellFormed.{Good}
use Rattle.cdf_model.specs.declared.data_type.DataType.{DataType}
use Rattle.cdf_model.specs.declared.event.Event.{Event}
use Rattle.cdf_model.specs.declared.kinds.EntryKind.{EntryKind}
use Rattle.cdf_model.specs.declared.kinds.EntryKind.TheVariants as entries
use Rattle.cdf_model.specs.declared.kinds.Kind.{Kind}
use Rattle.cdf_model.specs.declared.kinds.Kind.TheVariants.{R, Z}
use Rattle.cdf_model.specs.DataSet.{Attribute, DataSet, Entry, Variable}
use Rattle.cdf_model.specs.Events.{attribute_events, each, end_event, entry_event, events_of, kind_in, record_count, record_event, variable_events}
use Rattle.cdf_model.specs.Walks.{all_records}
use Rattle.cdf_model.specs.Whole.{CanBeShown, IsWhole, IsWholePad}
use Rattle.cdf_vars.proofs.WholeVariables.{has_whole_variables}
use Rattle.cdf_vars.specs.Events.{HasWholeVariables, IsWholeVariable}

-- ---- each event can be shown

-- what holds of each holds at each place
at_each : {A : Type 0} (P : A → Type 0) (xs : List A) → Each P xs → All P xs
at_each P [] all k d less = absurd (omega (arith, less))
at_each P (x ∷ xs) all zero d less = all.0
at_each P (x ∷ xs) all (suc k) d less = at_each P xs all.1 k d (omega (arith, less))

abbrev AllShown : List Event → Type 0
AllShown events = Each CanBeShown events

-- the events of items are those of each
each_shown : {A : Type 0} (P : A → Type 0) (shown : ℕ × A → List Event) → ((k : ℕ) (a : A) → P a → AllShown (shown (k, a))) → (n : ℕ) (items : List A) → Each P items → AllShown (flat_map shown (enumerate_from n items))
each_shown P shown so n [] all = tt
each_shown P shown so n (a ∷ items) all = Each-append CanBeShown (shown (n, a)) (flat_map shown (enumerate_from (n + 1) items)) (so n a all.0) (each_shown P shown so (n + 1) items all.1)

entries_shown : (kind : EntryKind) (items : List (ℕ × Entry)) → Each IsWholeEntry items → AllShown (map (entry_event kind) items)
entries_shown kind [] all = tt
entries_shown kind ((num, entry) ∷ items) all = (all.0, entries_shown kind items all.1)

attribute_shown : (k : ℕ) (a : Attribute) → HasWholeEntries a → AllShown (attribute_events (k, a))
attribute_shown k a whole = (tt, Each-append CanBeShown (map (entry_event (kind_in a.scope)) a.g) (map (entry_event entries.Z) a.z) (entries_shown (kind_in a.scope) a.g whole.0) (entries_shown entries.Z a.z whole.1))

pad_shown : (t : DataType) (elems : ℕ) (pad : Option (List ℕ)) → IfSome pad (IsWhole t elems) → IsWholePad (is_some pad) t elems (unwrap_or pad [])
pad_shown t elems None whole = tt
pad_shown t elems (Some bytes) whole = whole

records_shown : (v : Variable) (items : List (ℕ × List ℕ)) → Each (λ (pair : ℕ × List ℕ). IsWhole v.type v.elems pair.1) items → AllShown (map (record_event v) items)
records_shown v [] all = tt
records_shown v ((num, bytes) ∷ items) all = (all.0, records_shown v items all.1)

variable_shown : (kind : Kind) (k : ℕ) (v : Variable) → IsWholeVariable v → AllShown (variable_events kind (k, v))
variable_shown kind k v whole = (pad_shown v.type v.elems v.pad whole.pad, records_shown v v.recs whole.records)

each_event : (d : DataSet) → Each HasWholeEntries d.attributes → ((kind : Kind) → HasWholeVariables d kind) → AllShown (events_of d)
each_event d entries variables =
    let attributes = each_shown HasWholeEntries attribute_events attribute_shown 0 d.attributes entries in
    let r_variables = each_shown IsWholeVariable (variable_events R) (variable_shown R) 0 d.r_variables (variables R).each in
    let z_variables = each_shown IsWholeVariable (variable_events Z) (variable_shown Z) 0 d.z_variables (variables Z).each in (
      tt,
      Each-append CanBeShown (each attribute_events d.attributes ++ each (variable_events R) d.r_variables ++ each (variable_events Z) d.z_variables) (end_event d ∷ [])
          (Each-append CanBeShown (each attribute_events d.attributes ++ each (variable_events R) d.r_variables) (each (variable_events Z) d.z_variables)
          (Each-append CanBeShown (each attribute_events d.attributes) (each (variable_events R) d.r_variables) attributes r_variables) z_variables) (tt, tt),
    )

-- ---- there are few records

few_of : (vs : List Variable) → Each IsWholeVariable vs → record_count vs ≤ length vs * 2147483648
few_of [] all = omega arith
few_of (v ∷ vs) all =
    let more = few_of vs all.1 in
    let few = all.0.few in
    let count : record_count (v ∷ vs) ≡ length v.recs + record_count vs = sum_by-cons (λ x. x) (length v.recs) (map (λ (x : Variable). length x.recs) vs) in
    omega arith

few_in : (d : DataSet) → ((kind : Kind) → HasWholeVariables d kind) → all_records d < 2 ^ 64
few_in d variables =
    let r_records = few_of d.r_variables (variables R).each in
    let z_records = few_of d.z_variables (variables Z).each in
    let r_few = (variables R).few in
    let z_few = (variables Z).few in
    omega (arith)

-- ---- of a good image

module _ (b : List ℕ) (good : Good b) where
  pub whole_variables : (kind : Kind) → HasWholeVariables (content b) kind
  whole_variables kind = has_whole_variables b kind good

  pub all_shown : All CanBeShown (events_of (content b))
  all_shown = at_each CanBeShown (events_of (content b)) (each_event (content b) (entries_whole b good) whole_variables)

  pub few_records : all_records (content b) < 2 ^ 64
  few_records = few_in (content b) whole_variables
