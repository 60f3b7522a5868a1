-- The events of a data set that a content may be have whole elements, and lengths as an image has them.
use Rattle.std.proofs.Common.{Bool, List, None, Some, [], arith, false, length, map, subst, sym, true, ℕ, ◌%◌, ◌*◌, ◌++◌, ◌+◌, ◌<◌, ◌∷◌, ◌≡◌, ◌≤◌}
use Rattle.std.specs.declared.option.Option.{Option}
use Rattle.std.specs.List.{enumerate_from, flat_map}
use Rattle.std.specs.Option.{is_some, unwrap_or}
use Rattle.std.proofs.Math.Nat.{mul-pos}
use Rattle.std.specs.Prelude.{IfSome}
use Rattle.cdf_edits.proofs.Commands.FineNames.{fine_is_short}
use Rattle.cdf_edits.specs.Index.Blocks.{record_length}
use Rattle.cdf_format.specs.Shape.{Each}
use Rattle.cdf_model.specs.declared.event.Event.{Event}
use Rattle.cdf_model.specs.declared.event.Event.TheVariants.{Head}
use Rattle.cdf_model.specs.declared.kinds.EntryKind.{EntryKind}
use Rattle.cdf_model.specs.declared.kinds.EntryKind.TheVariants.{Z}
use Rattle.cdf_model.specs.declared.kinds.Kind.{Kind}
use Rattle.cdf_model.specs.declared.kinds.Kind.TheVariants as kinds
use Rattle.cdf_model.specs.DataSet.{Attribute, DataSet, Entry, Variable, head_of}
use Rattle.cdf_model.specs.Events.{attribute_events, each, end_event, entry_event, events_of, kind_in, record_event, variable_events}
use Rattle.cdf_model.specs.Limits.{signed_limit}
use Rattle.cdf_model.specs.Place.{value_count}
use Rattle.cdf_model.specs.Types.{size_of}
use Rattle.cdf_writer.specs.Fine.{Fine, FineAttribute, FineRecord, FineVariable}
use Rattle.cdf_writer.specs.Shown.{IsWhole}
use Rattle.cdf_writer.proofs.Entries.{Fines, size_some, whole_bytes}
use Rattle.cdf_writer.proofs.VariablesRead.{record_even}

each_append : (P : Event → Type 0) (xs ys : List Event) → Each P xs → Each P ys → Each P (xs ++ ys)
each_append P [] ys a b = b
each_append P (x ∷ xs) ys a b = (a.0, each_append P xs ys a.1 b)

pub each_here : (P : Event → Type 0) (xs : List Event) (e : Event) (ys : List Event) → Each P (xs ++ e ∷ ys) → P e
each_here P [] e ys h = h.0
each_here P (x ∷ xs) e ys h = each_here P xs e ys h.1

entries_whole : (kind : EntryKind) (items : List (ℕ × Entry)) → Fines items → Each IsWhole (map (entry_event kind) items)
entries_whole kind [] f = tt
entries_whole kind ((num, entry) ∷ more) f = (whole_bytes (size_of entry.type) entry.elems (length entry.bytes) (size_some entry.type) (f.0).whole, entries_whole kind more f.1)

attributes_whole : (n : ℕ) (as_ : List Attribute) → Each FineAttribute as_ → Each IsWhole (flat_map attribute_events (enumerate_from n as_))
attributes_whole n [] f = tt
attributes_whole n (a ∷ more) f =
    each_append IsWhole (attribute_events (n, a)) (flat_map attribute_events (enumerate_from (n + 1) more))
    (fine_is_short a.name (f.0).named, each_append IsWhole (map (entry_event (kind_in a.scope)) a.g) (map (entry_event Z) a.z) (entries_whole (kind_in a.scope) a.g (f.0).g_fine.1) (entries_whole Z a.z (f.0).z_fine.1))
    (attributes_whole (n + 1) more f.1)

count_some : (dims : List ℕ) (varys : List Bool) → Each (λ n. (1 ≤ n) × (n ≤ signed_limit)) dims → 1 ≤ value_count dims varys
count_some [] varys f = omega arith
count_some (size ∷ dims) [] f = omega arith
count_some (size ∷ dims) (true ∷ varys) f = let c = count_some dims varys f.1 in let s = f.0.0 in omega (arith, mul-pos {m = size} {n = value_count dims varys} (omega (arith, s)) (omega (arith, c)))
count_some (size ∷ dims) (false ∷ varys) f = count_some dims varys f.1

product_some : (a b c : ℕ) → 1 ≤ a → 1 ≤ b → 1 ≤ c → 0 < a * b * c
product_some a b c x y z = omega (arith, mul-pos {m = a * b} {n = c} (omega (arith, mul-pos {m = a} {n = b} (omega (arith, x)) (omega (arith, y)))) (omega (arith, z)))

pub record_some : (v : Variable) → FineVariable v → 0 < record_length v
record_some v f = product_some (size_of v.type) v.elems (value_count v.dims v.varys) (size_some v.type) f.some (count_some v.dims v.varys f.sizes)

records_whole : (v : Variable) (xs : List (ℕ × List ℕ)) → FineVariable v → Each (λ pair. FineRecord v pair.0 pair.1) xs → Each IsWhole (map (record_event v) xs)
records_whole v [] f r = tt
records_whole v ((num, bytes) ∷ xs) f r = (own, records_whole v xs f r.1)
  where
    own : (0 < length bytes) × (length bytes % size_of v.type ≡ 0)
    own = subst (λ (n : ℕ). (0 < n) × (n % size_of v.type ≡ 0)) (sym (r.0).whole) (record_some v f, record_even (size_of v.type) v.elems (value_count v.dims v.varys) (size_some v.type))

pad_whole : (v : Variable) → FineVariable v → is_some v.pad ≡ true → length (unwrap_or v.pad []) % size_of v.type ≡ 0
pad_whole v f = of v.pad f.padded
  where
    of : (pad : Option (List ℕ)) → IfSome pad (λ bytes. length bytes ≡ size_of v.type * v.elems) → is_some pad ≡ true → length (unwrap_or pad []) % size_of v.type ≡ 0
    of None p e = absurd cc
    of (Some bytes) p e = whole_bytes (size_of v.type) v.elems (length bytes) (size_some v.type) p

variables_whole : (kind : Kind) (n : ℕ) (vs : List Variable) → Each FineVariable vs → Each IsWhole (flat_map (variable_events kind) (enumerate_from n vs))
variables_whole kind n [] f = tt
variables_whole kind n (v ∷ more) f =
    each_append IsWhole (variable_events kind (n, v)) (flat_map (variable_events kind) (enumerate_from (n + 1) more))
    ((fine_is_short v.name (f.0).named, (f.0).few_dims, pad_whole v f.0), records_whole v v.recs f.0 (f.0).records)
    (variables_whole kind (n + 1) more f.1)

pub events_whole : (d : DataSet) → Fine d → Each IsWhole (events_of d)
events_whole d f =
    let as_ = each attribute_events d.attributes in
    let rs = each (variable_events kinds.R) d.r_variables in
    let zs = each (variable_events kinds.Z) d.z_variables in
    let first : Each IsWhole (Head (head_of d) ∷ as_) = (f.head.few_dims, attributes_whole 0 d.attributes f.attributes.each) in
    each_append IsWhole (Head (head_of d) ∷ as_ ++ rs ++ zs) (end_event d ∷ [])
    (each_append IsWhole (Head (head_of d) ∷ as_ ++ rs) zs (each_append IsWhole (Head (head_of d) ∷ as_) rs first (variables_whole kinds.R 0 d.r_variables f.variables.r_fine)) (variables_whole kinds.Z 0 d.z_variables f.variables.z_fine))
    (tt, tt)
