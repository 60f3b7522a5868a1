-- What a command may change of variables of one kind that stay but for the links from one to the next, where those of the other kind stay.
use Rattle.cdf_edits.proofs.Common.{Act, AllKeep, Allowance, Allowances, Each, Edit, HasVariable, In, In-append_left, IsSound, Keeps, Kind, List, Mark, OneVariable, Only, Shape, Unused, VariableFits, VariableShape, [], arith, cdr_type, false, flat_map, gdr_type, index_types, inl, inr, is_a-in, length, linkable-in, linkable-type, next_field, owned, owned_by, owned_by_variables, refl, same_kind, shape, shapes_of, stays_all, subst, suc, sym, type_at, type_in, unused_records, variable_records, variables_chain, variables_gdr_fields, vdrs, ℕ, ◌+◌, ◌<◌, ◌∷◌, ◌≡◌, ◌≤◌}
use Rattle.cdf_edits.proofs.Edits.Common.{AllKeep-append, Kept, KeptButLink, VariableLives, all_attribute_records, all_attributes_in, all_unmarked-away, but_link, cdr_kept, gdr_in, gdr_start, gdr_typed, index_records, keep_all, keep_attributes, keep_file, keep_kinds, keep_own, keeps_fields, keeps_stood, kept, kept_away, kind_chain, kind_ours, late_size, other_kind, stood}
use Rattle.cdf_edits.proofs.Edits.JoinedVdr.{KindTests}
use Rattle.cdf_edits.proofs.Edits.VariableFrame.{AreOurs, index_typed, rest_ours, variables_in}

pub other_stays : (kind : Kind) → same_kind kind (other_kind kind) ≡ false
other_stays kind = grind arith

module _ {b now new : List ℕ} {marks : List Mark} {reborn : List ℕ} {kind : Kind} (sound : IsSound b (shape b)) (e : Edit b now (shape b).records new marks reborn) (t : KindTests kind marks) where
  abbrev s : Shape
  s = shape b

  -- what is behind a VDR stays
  pub behind_kept : (v : VariableShape) → HasVariable b s.records v → VariableFits b s.records v → (m : ℕ) → In m (index_records v) → In m s.records → Kept b now m
  behind_kept v has fits m i inside = kept_away e m (type_at b m) inside refl (all_unmarked-away marks index_types (type_at b m) m t.index_clear (index_typed b s v has fits m i))

  records_in : (v : VariableShape) (more : List VariableShape) → AreOurs b s (v ∷ more) → (m : ℕ) → In m (variable_records v) → In m s.records
  records_in v more ours m i = variables_in b s sound m (ours.sub m (In-append_left m (variable_records v) (flat_map variable_records more) i))

  pub live : (vs : List VariableShape) → AreOurs b s vs → ((m : ℕ) → In m (vdrs vs) → KeptButLink b now m) → Each (VariableLives b now) vs
  live [] ours linked = tt
  live (v ∷ more) ours linked = (
    record { vdr = linked v.vdr (inl refl); behind = λ m i. behind_kept v ours.has.0 ours.fits.0 m i (records_in v more ours m (inr i)) },
    live more (rest_ours b s v more ours) (λ m i. linked m (inr i)),
  )

  other_kept : (m : ℕ) → In m (vdrs (shapes_of s (other_kind kind))) → Kept b now m
  other_kept m i =
      let other = type_in (variables_chain (other_kind kind)) in
      let ok = (kind_chain (other_kind kind) sound.has_shape).linkable m i in
      kept e m other (linkable-in b s.records other m ok) (linkable-type b s.records other m ok) t.others_clear

  pub others_live : Each (VariableLives b now) (shapes_of s (other_kind kind))
  others_live = live (shapes_of s (other_kind kind)) (kind_ours b s sound (other_kind kind)) (λ m i. but_link b now m (other_kept m i))

  module _ (records_are : (shape now).records ≡ new) where
    -- a record that stays but for its link
    pub next_keeps : (m : ℕ) → In m s.records → KeptButLink b now m → Keeps b now m (Only (next_field ∷ []))
    next_keeps m i k = record {
      stands = subst (In m) (sym records_are) (e.sub m i);
      size_is = late_size b now m k;
      same = λ n l out. elim out.0 [ inl low ↦ k.start.each (m + n) (omega arith) (omega arith) | inr high ↦ k.rest.each (m + n) (omega arith) (omega arith) ];
    }

    pub keep_numbered : (may : Allowances) (acts : List Act) (k : Kind) (n : ℕ) (vs : List VariableShape) → AreOurs b s vs → ((i m : ℕ) → n ≤ i → i < n + length vs → In m (vdrs vs) → In m s.records → Keeps b now m (may.variables k i m)) → AllKeep b now may acts (owned_by_variables k n vs)
    keep_numbered may acts k n [] ours says = tt
    keep_numbered may acts k n (v ∷ more) ours says = AllKeep-append b now may acts (owned_by (OneVariable k n) (variable_records v)) (owned_by_variables k (suc n) more)
        (keep_own b now may acts k n v (says n v.vdr (omega arith) (omega arith) (inl refl) (records_in v more ours v.vdr (inl refl)))
        (λ m i. stood sound e records_are m (records_in v more ours m (inr i)) (behind_kept v ours.has.0 ours.fits.0 m i (records_in v more ours m (inr i)))))
        (keep_numbered may acts k (suc n) more (rest_ours b s v more ours) (λ i m low high j. says i m (omega arith) (omega arith) (inr j)))

    -- the whole
    module _ (variables : Kind → ℕ → ℕ → Allowance) (acts : List Act) where
      abbrev may : Allowances
      may = record stays_all { gdr = Only (variables_gdr_fields kind); variables = variables }

      pub keep_with_kind : ((i m : ℕ) → variables (other_kind kind) i m ≡ Only []) → AllKeep b now may acts (owned_by_variables kind 0 (shapes_of s kind)) → ((m : ℕ) → In m (all_attribute_records s) → Kept b now m) → AllKeep b now may acts (owned_by Unused (unused_records b s)) → AllKeep b now may acts (owned b s)
      keep_with_kind none own attributes unused =
          let h = sound.has_shape in
          let others = keep_numbered may acts (other_kind kind) 0 (shapes_of s (other_kind kind)) (kind_ours b s sound (other_kind kind)) (λ i m low high j inside. subst (Keeps b now m) (sym (none i m)) (keeps_stood b now m (stood sound e records_are m inside (other_kept m j)) (Only []))) in
          let both = keep_kinds b now may acts kind own others in
          keep_all b now may acts
          (keep_file b now may acts sound
          (keeps_stood b now 8 (stood sound e records_are 8 (is_a-in b s.records cdr_type 8 h.cdr_stands) (cdr_kept sound e t.file_clear)) (Only []))
          (keeps_fields sound e records_are s.gdr gdr_type (variables_gdr_fields kind) (gdr_in b s h) (gdr_typed b s h) (gdr_start sound e t.file_clear) t.gdr_within))
          (keep_attributes b now may acts 0 s.attributes (λ m i. stood sound e records_are m (all_attributes_in sound m i) (attributes m i)))
          both.0 both.1 unused
