-- A record of type UIR behind the last one, on no list, leaves a sound image sound.
use Rattle.cdf_edits.proofs.Common.{AreTiles, Bool, ChangedWithin, In, In-append, In-append_left, IsSound, LeavesFinding, List, Shape, [], adr_type, ap, append_assoc, arith, attribute_records, attributes_in, cdr_type, either, eq-eqb, eqb, eqb-true, filter, fixed_size, flat_map, gdr_type, inl, inr, is_record_type, length, linkable-in, owned_is, owned_records, r_num_dims, refl, size_at, subst, sym, tile_lies, times, times-none, true, type_at, uir_type, unused_records, variable_records, variables, with_records, ℕ, ◌*◌, ◌++◌, ◌+◌, ◌∙◌, ◌∷◌, ◌≡◌, ◌≤◌}
use Rattle.cdf_edits.proofs.Frame.TilesGrow.{tiles_push}
use Rattle.cdf_edits.proofs.Frame.OwnerAlone.{stays, heads}
use Rattle.cdf_edits.proofs.Frame.OwnersApart.{times-append, owned-times, file_records, all_attribute_records, all_variable_records, vdrs_stand, unused_in, file_in, file_from_attributes, file_from_variables, file_found, dimensions_found, file_is_alone}
use Rattle.cdf_edits.proofs.Frame.SoundStays.{attributes_fit_kept, variables_fit_kept, unused_kept}
use Rattle.cdf_edits.proofs.Frame.SameShape.{shape_stays, typed_kept, fixed_kept, is_a_kept}
use Rattle.cdf_edits.proofs.Frame.FileSound.{variables_stand}

filter_push : (p : ℕ → Bool) (xs : List ℕ) (x : ℕ) → p x ≡ true → filter p (xs ++ x ∷ []) ≡ filter p xs ++ x ∷ []
filter_push p [] x e = rw e refl
filter_push p (y ∷ ys) x e = elim (either (p y)) [
  | inl t ↦ rw t (ap (λ (r : List ℕ). y ∷ r) (filter_push p ys x e))
  | inr t ↦ rw t (filter_push p ys x e)
]

-- each owned record of a sound image is one of its records
pub sound_owned_stand : (b : List ℕ) (s : Shape) → IsSound b s → (m : ℕ) → (In m s.records → ⊥) → times m (owned_records b s) ≡ 0
sound_owned_stand b s sound m out =
    let h = sound.has_shape in
    let file = times-none m (file_records s) (λ i. out (file_in b s sound m i)) in
    let attributes = times-none m (all_attribute_records s) (λ i. out (attributes_in b s.records s.attributes h.entry_chains (λ x j. linkable-in b s.records adr_type x (h.attribute_chain.linkable x j)) m i)) in
    let of_variables = times-none m (all_variable_records s) (λ i. out (variables_stand b s.records (variables s) (vdrs_stand b s sound) h.have_variables sound.variables_fit m i)) in
    let unused = times-none m (unused_records b s) (λ i. out (unused_in b s sound m i)) in
    owned-times b s m ∙ none (times m (file_records s)) (times m (all_attribute_records s)) (times m (all_variable_records s)) (times m (unused_records b s)) file attributes of_variables unused
  where
    none : (f a v u : ℕ) → f ≡ 0 → a ≡ 0 → v ≡ 0 → u ≡ 0 → f + (a + (v + u)) ≡ 0
    none f a v u p q r t = omega arith

pub appended_stays_sound : (b now : List ℕ) (s : Shape) (n : ℕ) (change : ChangedWithin b now (8 ∷ s.gdr ∷ [])) → IsSound b s → LeavesFinding b s change.touches
    → length now ≡ length b + n → size_at now (length b) ≡ n → type_at now (length b) ≡ uir_type → 12 ≤ n → IsSound now (with_records s (s.records ++ length b ∷ []))
appended_stays_sound b now s n change sound finding as_long size_new type_new long =
    let h = sound.has_shape in
    let own : List ℕ = 8 ∷ s.gdr ∷ [] in
    let new = length b in
    let records = s.records ++ new ∷ [] in
    let inside = file_in b s sound in
    let sub : (m : ℕ) → In m s.records → In m records = λ m i. In-append_left m s.records (new ∷ []) i in
    let same = heads b now own s h change inside records sub in
    let alone = file_is_alone b s sound now records sub change finding in
    let file = file_found b s sound now records sub change finding in
    let tiled : AreTiles now 8 (length now) records = subst (λ (x : ℕ). AreTiles now 8 x records) (sym as_long) (tiles_push now 8 (length b) n s.records alone.tiled size_new long) in
    let typed : (m : ℕ) → In m records → is_record_type (type_at now m) ≡ true = λ m i. elim (In-append m s.records (new ∷ []) i) [
      | inl j ↦ typed_kept b now s h records same m j
      | inr j ↦ elim j [ inl e ↦ subst (λ (t : ℕ). is_record_type t ≡ true) (sym (ap (type_at now) e ∙ type_new)) refl | inr none ↦ absurd none ]
    ] in
    let fixed : (m : ℕ) → In m records → fixed_size (type_at now m) ≤ size_at now m = λ m i. elim (In-append m s.records (new ∷ []) i) [
      | inl j ↦ fixed_kept b now s h records same m j
      | inr j ↦ elim j [ inl e ↦ subst (λ (t : ℕ). fixed_size t ≤ size_at now m) (sym (ap (type_at now) e ∙ type_new)) (tile_lies now 8 (length now) records m tiled i).long | inr none ↦ absurd none ]
    ] in
    let size = same.sizes s.gdr (inside s.gdr (inr (inl refl))) in
    let dims = dimensions_found b s sound now records sub change finding in
    let room : 84 + 4 * r_num_dims now s.gdr ≤ size_at now s.gdr = subst (λ (x : ℕ). 84 + 4 * r_num_dims now s.gdr ≤ x) (sym size) (subst (λ (x : ℕ). 84 + 4 * x ≤ size_at b s.gdr) (sym dims) sound.gdr_fits) in
    let kept = stays b now own s h change inside records sub in
    let a_in = attributes_in b s.records s.attributes h.entry_chains (λ m i. linkable-in b s.records adr_type m (h.attribute_chain.linkable m i)) in
    let v_in = variables_stand b s.records (variables s) (vdrs_stand b s sound) h.have_variables sound.variables_fit in
    let is_uir : eqb (type_at now new) uir_type ≡ true = eq-eqb _ _ type_new in
    let unused : unused_records now (with_records s records) ≡ unused_records b s ++ new ∷ [] = filter_push (λ m. eqb (type_at now m) uir_type) s.records new is_uir ∙ ap (λ (u : List ℕ). u ++ new ∷ []) (unused_kept b now s same.types) in
    let before = (8 ∷ s.gdr ∷ []) ++ flat_map attribute_records s.attributes ++ flat_map variable_records s.r_variables ++ flat_map variable_records s.z_variables in
    let owned : owned_records now (with_records s records) ≡ owned_records b s ++ new ∷ [] =
    owned_is now (with_records s records) ∙ ap (λ (u : List ℕ). before ++ u) unused ∙ sym (append_assoc before (unused_records b s) (new ∷ [])) ∙ ap (λ (x : List ℕ). x ++ new ∷ []) (sym (owned_is b s)) in
    let not_in : In new s.records → ⊥ = λ i. let l = tile_lies b 8 (length b) s.records new h.tiled i in past new (size_at b new) l.high l.long in
    record {
      has_shape = shape_stays b now s records alone tiled typed fixed (is_a_kept b now s.records records cdr_type 8 same h.cdr_stands) (is_a_kept b now s.records records gdr_type s.gdr same h.gdr_stands);
      gdr_fits = room;
      attributes_fit = attributes_fit_kept b now s.records records file same s.attributes (λ m i. kept m (a_in m i) (file_from_attributes b s sound m i)) sound.attributes_fit;
      variables_fit = variables_fit_kept b now s.records records file same (variables s) (λ m i. kept m (v_in m i) (file_from_variables b s sound m i)) sound.variables_fit;
      not_twice = λ m. subst (λ (x : List ℕ). times m x ≤ 1) (sym owned) (subst (λ (x : ℕ). x ≤ 1) (sym (times-append m (owned_records b s) (new ∷ []))) (once m (owned_records b s) new (sound.not_twice m) (λ e. sound_owned_stand b s sound m (λ i. not_in (subst (λ (x : ℕ). In x s.records) e i)))));
    }
  where
    past : (x s : ℕ) → x + s ≤ x → 12 ≤ s → ⊥
    past x s p q = omega arith

    none_more : (k : ℕ) → k ≤ 1 → k + 0 ≤ 1
    none_more k p = omega arith

    first_one : (k : ℕ) → k ≡ 0 → k + 1 ≤ 1
    first_one k p = omega arith

    once : (m : ℕ) (xs : List ℕ) (new : ℕ) → times m xs ≤ 1 → (m ≡ new → times m xs ≡ 0) → times m xs + times m (new ∷ []) ≤ 1
    once m xs new le none = elim (either (eqb m new)) [
      | inl e ↦ rw e (first_one (times m xs) (none (eqb-true m new e)))
      | inr e ↦ rw e (none_more (times m xs) le)
    ]
