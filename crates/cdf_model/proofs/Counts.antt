-- The last event counts the records that were shown.
use Rattle.std.proofs.Common.{ℕ, ◌≡◌, ◌+◌, List, [], ◌∷◌, ◌++◌, map, length, refl, ap, arith}
use Rattle.std.proofs.lemmas.List.Sums.{sum_by-cons}
use Rattle.std.specs.List.{enumerate_from, flat_map}
use Rattle.cdf_model.specs.declared.event.Event.{Event}
use Rattle.cdf_model.specs.declared.kinds.EntryKind.{EntryKind}
use Rattle.cdf_model.specs.declared.kinds.EntryKind.TheVariants.{Z}
use Rattle.cdf_model.specs.declared.kinds.Kind.{Kind}
use Rattle.cdf_model.specs.declared.kinds.Kind.TheVariants as kinds
use Rattle.cdf_model.specs.DataSet.{Attribute, DataSet, Entry, Variable}
use Rattle.cdf_model.specs.Events.{attribute_events, each, end_event, entry_event, events_of, kind_in, record_count, record_event, variable_events}
use Rattle.cdf_model.specs.declared.spot.Spot.{Spot}
use Rattle.cdf_model.specs.declared.spot.Spot.TheVariants as spots
use Rattle.cdf_model.specs.Spots.{rest}
use Rattle.cdf_model.specs.Walks.{Counts, all_records, records_among, records_of}

both : (xs ys : List Event) → records_among (xs ++ ys) ≡ records_among xs + records_among ys
both [] ys = omega arith
both (x ∷ xs) ys = omega (arith, both xs ys)

of_entries : (kind : EntryKind) (es : List (ℕ × Entry)) → records_among (map (entry_event kind) es) ≡ 0
of_entries kind [] = refl
of_entries kind (e ∷ es) = omega (arith, of_entries kind es)

of_attributes : (n : ℕ) (xs : List Attribute) → records_among (flat_map attribute_events (enumerate_from n xs)) ≡ 0
of_attributes n [] = refl
of_attributes n (a ∷ more) =
    let own = map (entry_event (kind_in a.scope)) a.g in
    let z = map (entry_event Z) a.z in
    omega (arith, both (own ++ z) (flat_map attribute_events (enumerate_from (n + 1) more)), both own z, of_entries (kind_in a.scope) a.g, of_entries Z a.z, of_attributes (n + 1) more)

of_records : (v : Variable) (rs : List (ℕ × List ℕ)) → records_among (map (record_event v) rs) ≡ length rs
of_records v [] = refl
of_records v (r ∷ rs) = omega (arith, of_records v rs)

of_variables : (kind : Kind) (n : ℕ) (vs : List Variable) → records_among (flat_map (variable_events kind) (enumerate_from n vs)) ≡ record_count vs
of_variables kind n [] = refl
of_variables kind n (v ∷ more) =
    omega (arith, both (map (record_event v) v.recs) (flat_map (variable_events kind) (enumerate_from (n + 1) more)), of_records v v.recs, of_variables kind (n + 1) more, sum_by-cons (λ x. x) (length v.recs) (map (λ (x : Variable). length x.recs) more))

-- all of them
pub counted : (d : DataSet) → records_among (events_of d) ≡ all_records d
counted d =
    let own = each attribute_events d.attributes in
    let r = each (variable_events kinds.R) d.r_variables in
    let z = each (variable_events kinds.Z) d.z_variables in
    omega (arith, both ((own ++ r) ++ z) (end_event d ∷ []), both (own ++ r) z, both own r, of_attributes 0 d.attributes, of_variables kinds.R 0 d.r_variables, of_variables kinds.Z 0 d.z_variables)

-- before the first event none was counted, and an event that is given is counted
pub counts_none : (d : DataSet) → Counts d spots.Head 0
unfolding rest
counts_none d = omega (arith, counted d)

pub counts_more : (d : DataSet) (spot after : Spot) (n : ℕ) (event : Event) → Counts d spot n → rest d spot ≡ event ∷ rest d after → Counts d after (n + records_of event)
counts_more d spot after n event c e = let same = ap records_among e in omega (arith, c, same)
