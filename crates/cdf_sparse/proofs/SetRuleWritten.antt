-- SRecords of a descriptor is written where it stands: the image has its shape, and all but the rule of the variable stays.
use Rattle.cdf_edits.proofs.Common.{Avoids, Away, Edit, Good, HasShape, HasVariable, In, IsIndex, Kind, List, Mark, NodeFits, R, Same, Shape, Stays, VariableShape, Z, [], ap, arith, content, count_of, field_marks, fixed_size, gdr_uir_head, head_of, inl, inr, length, linkable-in, linkable-type, nodes_of, nodes_stand, number, refl, shape, shapes_of, size_at, slice_set, subst, sym, tile_lies, true, type_at, type_in, uir_type, unmarked, variable_of, variables_chain, variables_of, vdr_num, vdr_s_records, vdr_vxr_head, vdrs, vxr_type, with_variables, word_kept, ℕ, ◌+◌, ◌∙◌, ◌∷◌, ◌≡◌, ◌≢◌, ◌≤◌, ◌⊎◌}
use Rattle.cdf_edits.proofs.Commands.KeptRecords.{Stood}
use Rattle.cdf_edits.proofs.Edits.Common.{Each-in, FileSame, Kept, OwnEdit, SameHeads, StandsAmong, behind_in, block_behind, chain_stays, file_same, fits, fixed_long, gdr_field, has, head_size, head_type, high, index_kept, kept_away, kind_chain, least_size, long, node_behind, sound, the_one, through, tile, typed}
use Rattle.cdf_edits.proofs.Edits.FieldWritten.{touched_edit}
use Rattle.cdf_edits.proofs.Edits.OwnEdited as of_own
use Rattle.cdf_edits.proofs.Edits.VdrEdited.{MarkTests}
use Rattle.cdf_sparse.proofs.RuledVdr.{RuledVdr, cpr_same, early_same}
use Rattle.cdf_sparse.specs.SetRule.{RuleWritten}

abbrev rule_marks : Kind → ℕ → List Mark
rule_marks kind v = field_marks (type_in (variables_chain kind)) v vdr_s_records

rule_tests : (kind : Kind) (v : ℕ) → MarkTests kind (rule_marks kind v)
rule_tests R v = record { file_clear = refl; attributes_clear = refl; other_clear = refl; index_clear = refl; unused_clear = refl; gdr_clear = λ lo hi. refl }
rule_tests Z v = record { file_clear = refl; attributes_clear = refl; other_clear = refl; index_clear = refl; unused_clear = refl; gdr_clear = λ lo hi. refl }

-- no descriptor is an unused record
pub used_vdr : (kind : Kind) → type_in (variables_chain kind) ≢ uir_type
used_vdr R e = cc
used_vdr Z e = cc

node_type : (kind : Kind) → type_in (variables_chain kind) ≢ vxr_type
node_type R e = cc
node_type Z e = cc

module _ {b now : List ℕ} {kind : Kind} {before : List VariableShape} {own : VariableShape} {after : List VariableShape} {code : ℕ} (good : Good b) (at : StandsAmong b kind before own after) (w : RuleWritten b now own.vdr code) where
  abbrev s : Shape
  s = shape b

  abbrev v : ℕ
  v = own.vdr

  abbrev type : ℕ
  type = type_in (variables_chain kind)

  abbrev marks : List Mark
  marks = rule_marks kind v

  t : MarkTests kind marks
  t = rule_tests kind v

  h : HasShape b s
  h = (sound good at).has_shape

  pub edit : Edit b now s.records s.records marks []
  edit = touched_edit (record { tiled = h.tiled; inside = tile good at; typed = typed good at; fits = let n = long good at in omega arith; late = omega arith }) w.changed w.as_long

  pub file : FileSame b now
  file = file_same (sound good at) edit t.file_clear

  -- ---- the other records

  away : (m : ℕ) → (m ≡ v → ⊥) → Away marks (type_at b m) m
  away m other = ((λ same lies. other (the_one v m lies)), tt)

  pub kept_beside : (m : ℕ) → In m s.records → (m ≡ v → ⊥) → Kept b now m
  kept_beside m i other = kept_away edit m (type_at b m) i refl (away m other)

  early : (of m lo hi : ℕ) → hi ≤ 48 → Avoids marks of m lo hi
  early of m lo hi l = ((λ same lies. inl l), tt)

  start : (m : ℕ) → In m s.records → Same b now (m + 0) (m + 12)
  start m i = edit.part m (type_at b m) 0 12 i refl (early (type_at b m) m 0 12 (omega arith)) (early (type_at b m) m 0 12 (omega arith)) (tile_lies b 8 (length b) s.records m h.tiled i).long

  pub size_same : (m : ℕ) → In m s.records → size_at now m ≡ size_at b m
  size_same m i = head_size b now m (start m i)

  pub type_same : (m : ℕ) → In m s.records → type_at now m ≡ type_at b m
  type_same m i = head_type b now m (start m i)

  heads : SameHeads b now s.records s.records
  heads = record { sizes = size_same; types = type_same; sub = λ m i. i }

  -- no unused record is the descriptor
  pub unused_beside : (m : ℕ) → type_at b m ≡ uir_type → m ≡ v → ⊥
  unused_beside m u e = used_vdr kind (sym (typed good at) ∙ ap (type_at b) (sym e) ∙ u)

  -- ---- its descriptor

  pub part : (lo hi : ℕ) → (hi ≤ 48) ⊎ (52 ≤ lo) → hi ≤ size_at b v → Same b now (v + lo) (v + hi)
  part lo hi side fit = edit.part v type lo hi (tile good at) (typed good at) (early type v 0 12 (omega arith)) ((λ same lies. side), tt) fit

  pub ruled_vdr : RuledVdr b now v
  ruled_vdr = record { front = part 0 48 (inl (omega arith)) (let n = long good at in omega arith); back = part 52 (size_at b v) (inr (omega arith)) (omega arith); inside = high good at; end = (fits good at).0 }

  nums_same : (m : ℕ) → In m (vdrs (shapes_of s kind)) → number now m vdr_num ≡ number b m vdr_num
  nums_same m i =
      let ok = (kind_chain kind h).linkable m i in
      let inside = linkable-in b s.records type m ok in
      let is = linkable-type b s.records type m ok in
      let far = through 340 (fixed_size type) (size_at b m) (least_size kind) (fixed_long b s h type m inside is) in
      word_kept b now (m + 68) (m + 72) (edit.part m type 68 72 inside is (early type m 0 12 (omega arith)) ((λ same lies. inr (omega arith)), tt) (omega arith)) (m + vdr_num.place) 4 (omega arith) (omega arith)

  -- ---- its index

  node_apart : (m : ℕ) → In m (nodes_of own.index) → m ≡ v → ⊥
  node_apart m i e = node_type kind (sym (typed good at) ∙ ap (type_at b) (sym e) ∙ linkable-type b s.records vxr_type m (nodes_stand b s.records 8 own.index (has good at).indexed.has_nodes m i))

  index_now : IsIndex now s.records (number now v vdr_vxr_head) own.index
  index_now = index_kept b now s.records s.records heads (number b v vdr_vxr_head) (number now v vdr_vxr_head) own.index (has good at).indexed (early_same file ruled_vdr vdr_vxr_head (omega arith))
      (λ m i. kept_beside m (behind_in good at m (node_behind own m i)) (node_apart m i)) (Each-in (NodeFits b) (nodes_of own.index) (fits good at).1) (λ m i. behind_in good at m (block_behind own m i))

  has_now : HasVariable now s.records own
  has_now = record { indexed = index_now; packed_by = cpr_same file ruled_vdr ∙ (has good at).packed_by }

  -- ---- the image

  pub own_edit : OwnEdit b now kind own own.index s.records s.unused marks []
  own_edit =
      let list = chain_stays edit uir_type _ _ s.unused h.unused_chain (gdr_field (sound good at) edit t.file_clear gdr_uir_head (t.gdr_clear gdr_uir_head.place (gdr_uir_head.place + gdr_uir_head.width)) (omega arith)) (λ m i. early uir_type m 0 20 (omega arith)) in
      record {
        edit = edit;
        file_clear = t.file_clear;
        attributes_clear = t.attributes_clear;
        other_clear = t.other_clear;
        head_clear = t.gdr_clear (head_of (variables_chain kind)).place ((head_of (variables_chain kind)).place + (head_of (variables_chain kind)).width);
        count_clear = t.gdr_clear (count_of (variables_chain kind)).place ((count_of (variables_chain kind)).place + (count_of (variables_chain kind)).width);
        beside = λ m i out. away m (λ q. out (inl q));
        linked = λ m. early type m 0 20 (omega arith);
        nums = nums_same;
        typed = λ m i. absurd i;
        unused_chain = list;
        has_now = has_now;
      }

  pub rule_shape : shape now ≡ s
  rule_shape = of_own.shape_stays good at own_edit w.as_long

  pub rule_among : StandsAmong now kind before own after
  rule_among = of_own.among_now good at own_edit

  pub rule_content : content now ≡ with_variables (content b) kind (slice_set (variables_of (content b) kind) (length before) (variable_of now own))
  rule_content = of_own.content_replaced good at own_edit

  pub unused_clear : unmarked marks uir_type ≡ true
  unused_clear = t.unused_clear

  -- ---- what stays

  stands_now : (m : ℕ) → In m s.records → In m (shape now).records
  stands_now m i = subst (λ (x : Shape). In m x.records) (sym rule_shape) i

  pub stood_beside : (m : ℕ) → In m s.records → (m ≡ v → ⊥) → Stood b now m
  stood_beside m i other = record { stands = stands_now m i; whole = kept_beside m i other }

  -- the descriptor, but for SRecords
  pub vdr_stays : Stays b now v (vdr_s_records ∷ [])
  vdr_stays = record {
    stands = stands_now v (tile good at);
    size_is = size_same v (tile good at);
    same = λ i lt out. (part i (i + 1) (elim out.0 [ inl x ↦ inl (omega (arith, x)) | inr x ↦ inr (omega (arith, x)) ]) (omega (arith, lt))).each (v + i) (omega arith) (omega arith);
  }
