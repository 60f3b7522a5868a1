-- A change within unused records, or within the CDR and the GDR, leaves a sound image sound.
use Rattle.cdf_edits.proofs.Common.{AreTiles, ChangedWithin, Each, HasVariable, In, In-append, IsSound, Leaf, Leaves, LeavesFinding, List, Shape, VariableFits, VariableShape, [], adr_type, ap, attribute_records, attributes_in, cdr_type, content, cpr_type, flat_map, gdr_type, inl, inr, is_a, is_a-in, leaves_of, length, linkable-in, map, nodes_of, nodes_stand, owned_is, owned_records, r_num_dims, refl, size_at, subst, sym, times, true, unused_records, variable_records, variables, vxr_type, ℕ, ◌*◌, ◌++◌, ◌+◌, ◌∙◌, ◌∷◌, ◌≡◌, ◌≤◌}
use Rattle.cdf_edits.proofs.Frame.Meaning.{FileSame}
use Rattle.cdf_edits.proofs.Frame.OwnerAlone.{Each-in, blocks_stand, stays, heads}
use Rattle.cdf_edits.proofs.Frame.OwnersApart.{vdrs_stand, unused_in, unused_from_file, unused_from_attributes, unused_from_variables, unused_are_alone, file_same_is, gdr_room, file_in, file_from_attributes, file_from_variables, file_found, dimensions_found, file_is_alone}
use Rattle.cdf_edits.proofs.Frame.SoundStays.{attributes_fit_kept, variables_fit_kept, unused_kept}
use Rattle.cdf_edits.proofs.Frame.SameShape.{shape_stays, typed_kept, fixed_kept, is_a_kept, unused_shape}

-- the records of variables are records of the image
pub variables_stand : (b records : List ℕ) (vs : List VariableShape) → Each (λ (v : VariableShape). In v.vdr records) vs → Each (HasVariable b records) vs → Each (VariableFits b records) vs → (m : ℕ) → In m (flat_map variable_records vs) → In m records
variables_stand b records [] tile has fits m i = absurd i
variables_stand b records (v ∷ more) tile has fits m i =
    let nodes = nodes_of v.index in
    let blocks = map (λ (leaf : Leaf). leaf.place) (leaves_of v.index) in
    elim (In-append m (variable_records v) (flat_map variable_records more) i) [
      | inr j ↦ variables_stand b records more tile.1 has.1 fits.1 m j
      | inl j ↦ elim j [
        | inl e ↦ subst (λ (x : ℕ). In x records) (sym e) tile.0
        | inr k ↦ elim (In-append m (nodes ++ blocks) v.cpr k) [
          | inr l ↦ is_a-in b records cpr_type m (Each-in (λ x. is_a b records cpr_type x ≡ true) v.cpr fits.0.3 m l)
          | inl l ↦ elim (In-append m nodes blocks l) [
            | inl n ↦ linkable-in b records vxr_type m (nodes_stand b records 8 v.index has.0.indexed.has_nodes m n)
            | inr n ↦ blocks_stand b records v.vdr (leaves_of v.index) fits.0.2 m n
          ]
        ]
      ]
    ]

module _ (b now own : List ℕ) (s : Shape) (sound : IsSound b s) (change : ChangedWithin b now own) (own_in : (m : ℕ) → In m own → In m s.records) (as_long : length now ≡ length b) where
  pub sound_stays : ((m : ℕ) → In m (flat_map attribute_records s.attributes) → In m own → ⊥) → ((m : ℕ) → In m (flat_map variable_records (variables s)) → In m own → ⊥) → FileSame b now
      → Leaves b now s s.records s.attributes (variables s) → 84 + 4 * r_num_dims now s.gdr ≤ size_at now s.gdr → IsSound now s
  sound_stays apart_attributes apart_variables file leaves room =
      let h = sound.has_shape in
      let same = heads b now own s h change own_in s.records (λ m i. i) in
      let tiled : AreTiles now 8 (length now) s.records = subst (λ (n : ℕ). AreTiles now 8 n s.records) (sym as_long) leaves.tiled in
      let kept = stays b now own s h change own_in s.records (λ m i. i) in
      let a_in = attributes_in b s.records s.attributes h.entry_chains (λ m i. linkable-in b s.records adr_type m (h.attribute_chain.linkable m i)) in
      let v_in = variables_stand b s.records (variables s) (vdrs_stand b s sound) h.have_variables sound.variables_fit in
      let owned : owned_records now s ≡ owned_records b s = owned_is now s ∙ ap (λ (u : List ℕ). (8 ∷ s.gdr ∷ []) ++ flat_map attribute_records s.attributes ++ flat_map variable_records s.r_variables ++ flat_map variable_records s.z_variables ++ u) (unused_kept b now s same.types) ∙ sym (owned_is b s) in
      record {
        has_shape = shape_stays b now s s.records leaves tiled (typed_kept b now s h s.records same) (fixed_kept b now s h s.records same) (is_a_kept b now s.records s.records cdr_type 8 same h.cdr_stands) (is_a_kept b now s.records s.records gdr_type s.gdr same h.gdr_stands);
        gdr_fits = room;
        attributes_fit = attributes_fit_kept b now s.records s.records file same s.attributes (λ m i. kept m (a_in m i) (apart_attributes m i)) sound.attributes_fit;
        variables_fit = variables_fit_kept b now s.records s.records file same (variables s) (λ m i. kept m (v_in m i) (apart_variables m i)) sound.variables_fit;
        not_twice = λ m. subst (λ (x : List ℕ). times m x ≤ 1) (sym owned) (sound.not_twice m);
      }

pub unused_stay_sound : (b now : List ℕ) (s : Shape) → IsSound b s → length now ≡ length b → ChangedWithin b now (unused_records b s) → IsSound now s × (content now ≡ content b)
unused_stay_sound b now s sound as_long change =
    let own = unused_records b s in
    let inside = unused_in b s sound in
    let all = λ (m : ℕ) (i : In m s.records). i in
    let from_file = unused_from_file b s sound in (
      sound_stays b now own s sound change inside as_long (unused_from_attributes b s sound) (unused_from_variables b s sound)
          (file_same_is b s sound now own change inside from_file s.records all)
          (unused_are_alone b s sound now s.records all change).0
          (gdr_room b s sound now own change inside from_file s.records all),
      (unused_shape b now s sound as_long change).1,
    )

pub file_stays_sound : (b now : List ℕ) (s : Shape) (change : ChangedWithin b now (8 ∷ s.gdr ∷ [])) → IsSound b s → length now ≡ length b → LeavesFinding b s change.touches → IsSound now s
file_stays_sound b now s change sound as_long finding =
    let own : List ℕ = 8 ∷ s.gdr ∷ [] in
    let inside = file_in b s sound in
    let all = λ (m : ℕ) (i : In m s.records). i in
    let same = heads b now own s sound.has_shape change inside s.records all in
    let size = same.sizes s.gdr (inside s.gdr (inr (inl refl))) in
    let dims = dimensions_found b s sound now s.records all change finding in
    let room : 84 + 4 * r_num_dims now s.gdr ≤ size_at now s.gdr = subst (λ (x : ℕ). 84 + 4 * r_num_dims now s.gdr ≤ x) (sym size) (subst (λ (x : ℕ). 84 + 4 * x ≤ size_at b s.gdr) (sym dims) sound.gdr_fits) in
    sound_stays b now own s sound change inside as_long (file_from_attributes b s sound) (file_from_variables b s sound)
    (file_found b s sound now s.records all change finding) (file_is_alone b s sound now s.records all change finding) room
