-- The deletion of a variable follows: its entries went, and then the variable.
use Rattle.cdf_edits.proofs.Common.{Act, ActsFollow, AreTiles, Attribute, DataSet, DropsEntries, Found, Gave, Go, Good, HasShape, In, Kind, List, R, RMaxRecOf, RemovesVariable, Shape, Some, Variable, Z, ap, arith, attribute_without, content, del_var_step, entries_for, freed_with_variable, gave, good_is_sound, image_limit, index_types, length, map, map-append, refl, remove, shape, shapes_of, size_at, subst, sym, true, type_in, uir_type, unmarked, variable_named, variable_unlinking_marks, variables_chain, variables_of, vdrs, with_variables, ℕ, ◌++◌, ◌∙◌, ◌∷◌, ◌≡◌, ◌≤◌}
use Rattle.cdf_edits.proofs.Edits.Common.{acts_still_by, all_gave, gave-same, may_free, freed_places, sizes_before, sizes_by_tiles}
use Rattle.cdf_model.specs.declared.answer.Reply.TheVariants as replies
use Rattle.cdf_model.specs.VariableSteps.{without_variable as without_found}
use Rattle.cdf_edits.proofs.Edits.UnlinkedVariable.{emptying_marks, emptied_edit, emptied_long, emptied_shape, emptied_sound}
use Rattle.cdf_edits.proofs.Edits.RemovedVariable.{emptied, frees, content_after, good_after, long_now, records_are, r_max_after}

-- ---- the step

pub delete_goes : (d : DataSet) (name : List ℕ) (found : Found) → variable_named d name ≡ Some found → del_var_step d name ≡ Go (without_found d found) replies.Plain
delete_goes d name found e = rw e refl

attributes_apart : (d : DataSet) (as_ : List Attribute) (kind : Kind) → variables_of (record d { attributes = as_ }) kind ≡ variables_of d kind
attributes_apart d as_ kind = grind arith

free_of_unused : (kind : Kind) (gdr : ℕ) (members later : List ℕ) (vdr : ℕ) → unmarked (variable_unlinking_marks kind gdr members later ++ emptying_marks kind vdr) uir_type ≡ true
free_of_unused kind gdr members later vdr = grind arith

module _ {b mid now : List ℕ} {found : Found} (good : Good b) (drops : DropsEntries b found mid) (d : RemovesVariable mid now found.kind found.number) where
  h : HasShape b (shape b)
  h = (good_is_sound b good).has_shape

  acts_are : gave b (entries_for b (shape b).attributes found ++ freed_with_variable d.own) ≡ gave b (entries_for b (shape b).attributes found) ++ gave b (freed_with_variable d.own)
  acts_are = map-append (λ (place : ℕ). Gave place (size_at b place)) (entries_for b (shape b).attributes found) (freed_with_variable d.own)

  -- ---- the content

  pub content_deleted : content now ≡ without_found (content b) found
  content_deleted =
      let as_ = map (attribute_without found.kind found.number) (content b).attributes in
      content_after drops.good d ∙ ap (λ (x : DataSet). with_variables x found.kind (remove (variables_of x found.kind) found.number)) drops.content_is
      ∙ ap (λ (vs : List Variable). with_variables (record (content b) { attributes = as_ }) found.kind (remove vs found.number)) (attributes_apart (content b) as_ found.kind)

  pub goes_deleted : (name : List ℕ) → variable_named (content b) name ≡ Some found → del_var_step (content b) name ≡ Go (content now) replies.Plain
  goes_deleted name named = delete_goes (content b) name found named ∙ ap (λ (x : DataSet). Go x replies.Plain) (sym content_deleted)

  pub long_deleted : length now ≡ length b
  long_deleted = long_now drops.good d ∙ drops.long

  pub good_deleted : length b ≤ image_limit → Good now
  good_deleted short = good_after drops.good d (let l = drops.long in omega arith)

  pub records_deleted : (shape now).records ≡ (shape b).records
  records_deleted = records_are drops.good d ∙ drops.records_are

  -- ---- its space

  pub sizes_mid : (m : ℕ) → In m (shape b).records → size_at mid m ≡ size_at b m
  sizes_mid = sizes_by_tiles b mid 8 8 (length b) (shape b).records refl h.tiled (subst (λ (k : ℕ). AreTiles mid 8 k (shape b).records) drops.long (subst (AreTiles mid 8 (length mid)) drops.records_are (good_is_sound mid drops.good).has_shape.tiled))

  pub own_in : (m : ℕ) → In m (freed_with_variable d.own) → In m (shape b).records
  own_in m i = subst (In m) drops.records_are (freed_places (frees drops.good d) m i)

  emptied_acts : ActsFollow b (emptied drops.good d) (gave b (entries_for b (shape b).attributes found))
  emptied_acts =
      let same = emptied_shape drops.good d.unlinks in
      acts_still_by (good_is_sound mid drops.good) drops.acts (emptied_edit drops.good d.unlinks) (free_of_unused found.kind (shape mid).gdr (vdrs (shapes_of (shape mid) found.kind)) (vdrs d.after) d.own.vdr) (ap (λ (x : Shape). x.records) same) (ap (λ (x : Shape). x.unused) same) (emptied_long drops.good d.unlinks)

  pub acts_deleted : ActsFollow b now (gave b (entries_for b (shape b).attributes found ++ freed_with_variable d.own))
  acts_deleted =
      let all = all_gave b (emptied drops.good d) now (gave b (entries_for b (shape b).attributes found)) (type_in (variables_chain found.kind) ∷ index_types) (freed_with_variable d.own) h emptied_acts (emptied_sound drops.good d.unlinks) (may_free (frees drops.good d)) d.given in
      let sizes = gave-same b (emptied drops.good d) (freed_with_variable d.own) (λ m i. sizes_before (frees drops.good d) m i ∙ sizes_mid m (own_in m i)) in
      subst (ActsFollow b now) (ap (λ (xs : List Act). gave b (entries_for b (shape b).attributes found) ++ xs) sizes ∙ sym acts_are) all

  -- ---- rMaxRec

  pub r_max_deleted : RMaxRecOf b now found.kind
  r_max_deleted = by_kind found.kind (r_max_after found.kind drops.good d)
    where
      by_kind : (kind : Kind) → RMaxRecOf mid now kind → RMaxRecOf b now kind
      by_kind R is = is
      by_kind Z is = is ∙ drops.r_max_rec_kept
