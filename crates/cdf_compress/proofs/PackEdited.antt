-- One variable without an index has other parameters of packing by now, or none, and its descriptor stays but for Flags and CPRorSPRoffset: the shape, the content and the rules of the image.
use Rattle.cdf_edits.proofs.Common.{Avoids, Away, Each, LeafFits, NodeFits, OutsideFields, Stays, VariableFits, cdr_type, cpr_type, is_a, is_a-in, times, vdr_cpr_or_spr_offset, Edit, Field, Good, HasShape, HasVariable, Hold, In, IsChain, IsIndex, Kind, List, Mark, Nodes, OwnedOnce, R, Same, Shape, Variable, VariableShape, Z, [], ap, arith, avoided, content, count_of, cpr_of, eof, fixed_size, flat_map, gdr_offset, gdr_type, gdr_uir_head, good_by_its_shape, has_bit, head_of, image_limit, index_rows, inl, inr, is_compressed, is_record_type, keeps_file, leaves_of, length, linkable-in, linkable-type, nodes_of, number, refl, shape, shape_is, shapes_of, size_at, slice_set, subst, sym, true, type_at, type_in, uir_type, variable_of, variable_records, variables_chain, variables_of, vdr_flags, vdr_num, vdr_vxr_head, vdrs, vdrs_append, with_variables, word_kept, ℕ, ◌++◌, ◌+◌, ◌∙◌, ◌∷◌, ◌≡◌, ◌≤◌, ◌⊎◌}
use Rattle.cdf_edits.proofs.Edits.Common.{FileSame, Kept, StandsAmong, all_attributes_in, attributes_kept, cdr_kept, kept_away, spliced_times, stood, times-append, used_times, variables_in, VariableSplices, after_ours, all_variable_records, chain_stays, counted_before, file_same, fits, fixed_long, gdr_field, gdr_place, has, head_size, high, keeps_all_attributes, keeps_kind, kind_chain, kind_ours, least_size, long, only_variable, other_kind, remain_from, shape_now, sound, through, tile, typed, vdrs_rows, with_shapes}
use Rattle.cdf_edits.proofs.Edits.OwnEdited.{replaced_content, replaced_good, replaced_named, ruled_before}
use Rattle.cdf_edits.proofs.Edits.StandsAmong.{ours}
use Rattle.cdf_edits.proofs.Edits.VariableFrame.{variables_away}
use Rattle.cdf_edits.proofs.Edits.VariableKept.{OnlyVariable}
use Rattle.cdf_edits.proofs.Edits.VariableKinds.{in_gdr, vdrs_rows_kept}
use Rattle.cdf_format.specs.Index.{link_to, no_node}
use Rattle.cdf_format.specs.IndexRules.{nodes_rows}
unfoldable use Rattle.cdf_index.proofs.Common.{HasNodes}
use Rattle.cdf_edits.proofs.Commands.KeptRecords.{Stood}
use Rattle.cdf_index.proofs.OwnRecords.{parts_times}
use Rattle.cdf_puts.specs.Going.{IsOther}
use Rattle.cdf_compress.proofs.RepackedRules.{Packs, end_same, rules_repacked}
use Rattle.cdf_compress.proofs.RepackedVdr.{RepackedVdr, early_same, name_same, variable_repacked}

-- beside Flags and CPRorSPRoffset
abbrev pub IsBeside : ℕ → ℕ → Type 0
IsBeside lo hi = (hi ≤ 44) ⊎ (((48 ≤ lo) × (hi ≤ 72)) ⊎ (80 ≤ lo))

-- No mark meets another variable, the attributes, or what the file says, nor the descriptor beside Flags and CPRorSPRoffset; of Flags the bit of packing alone changes.
pub record PackEdit (b now : List ℕ) (kind : Kind) (own : VariableShape) (cpr : List ℕ) (new list : List ℕ) (marks : List Mark) (reborn : List ℕ) : Type 0 where
  pub edit : Edit b now (shape b).records new marks reborn
  pub file_clear : keeps_file marks ≡ true
  pub attributes_clear : keeps_all_attributes marks ≡ true
  pub other_clear : keeps_kind marks (other_kind kind) ≡ true
  pub head_clear : avoided marks gdr_type (head_of (variables_chain kind)).place ((head_of (variables_chain kind)).place + (head_of (variables_chain kind)).width) ≡ true
  pub count_clear : avoided marks gdr_type (count_of (variables_chain kind)).place ((count_of (variables_chain kind)).place + (count_of (variables_chain kind)).width) ≡ true
  pub beside : (m : ℕ) → In m (all_variable_records (shape b)) → (In m (variable_records own) → ⊥) → Away marks (type_at b m) m
  pub avoids : (m lo hi : ℕ) → IsBeside lo hi → Avoids marks (type_in (variables_chain kind)) m lo hi
  pub typed : (m : ℕ) → In m reborn → (is_record_type (type_at now m) ≡ true) × (fixed_size (type_at now m) ≤ size_at now m)
  pub unused_chain : IsChain now new uir_type (number now (shape b).gdr gdr_uir_head) list
  pub packed_by : cpr_of now own.vdr ≡ cpr
  pub vary : has_bit (number now own.vdr vdr_flags) 0 ≡ has_bit (number b own.vdr vdr_flags) 0
  pub padded : has_bit (number now own.vdr vdr_flags) 1 ≡ has_bit (number b own.vdr vdr_flags) 1

-- an index without a node
no_index : (now records : List ℕ) (link : ℕ) → link ≡ link_to no_node → IsIndex now records link no_node
unfolding HasNodes nodes_of
no_index now records link e = record { link_is = e; has_nodes = tt; once = tt }

no_rules : (now records : List ℕ) (v : ℕ) → Hold (index_rows now records v no_node)
unfolding nodes_rows leaves_of
no_rules now records v = tt

no_nodes : (now : List ℕ) → Each (NodeFits now) (nodes_of no_node)
unfolding nodes_of
no_nodes now = tt

no_leaves : (now records : List ℕ) (v : ℕ) → Each (LeafFits now records v) (leaves_of no_node)
unfolding leaves_of
no_leaves now records v = tt

module _ {b now : List ℕ} {kind : Kind} {before : List VariableShape} {own : VariableShape} {after : List VariableShape} {cpr new list : List ℕ} {marks : List Mark} {reborn : List ℕ} (good : Good b) (at : StandsAmong b kind before own after) (none : own.index ≡ no_node) (x : PackEdit b now kind own cpr new list marks reborn) where
  abbrev s : Shape
  s = shape b

  abbrev v : ℕ
  v = own.vdr

  abbrev type : ℕ
  type = type_in (variables_chain kind)

  abbrev mine : VariableShape
  mine = record own { cpr = cpr }

  h : HasShape b s
  h = (sound good at).has_shape

  pub file : FileSame b now
  file = file_same (sound good at) x.edit x.file_clear

  -- ---- its descriptor

  pub part : (lo hi : ℕ) → IsBeside lo hi → hi ≤ size_at b v → Same b now (v + lo) (v + hi)
  part lo hi side fit = x.edit.part v type lo hi (tile good at) (typed good at) (x.avoids v 0 12 (inl (omega arith))) (x.avoids v lo hi side) fit

  part_of : (lo hi : ℕ) → IsBeside lo hi → hi ≤ 340 → Same b now (v + lo) (v + hi)
  part_of lo hi side l = part lo hi side (through hi 340 (size_at b v) l (long good at))

  pub vdr_size : size_at now v ≡ size_at b v
  vdr_size = head_size b now v (part_of 0 12 (inl (omega arith)) (omega arith))

  pub repacked : RepackedVdr b now v
  repacked = record {
    front = part_of 0 44 (inl (omega arith)) (omega arith);
    middle = part_of 48 72 (inr (inl (omega arith, omega arith))) (omega arith);
    back = part 80 (size_at b v) (inr (inr (omega arith))) (omega arith);
    vary = x.vary;
    padded = x.padded;
    inside = high good at;
    end = (fits good at).0;
  }

  nums_same : (m : ℕ) → In m (vdrs (shapes_of s kind)) → number now m vdr_num ≡ number b m vdr_num
  nums_same m i =
      let ok = (kind_chain kind h).linkable m i in
      let inside = linkable-in b s.records type m ok in
      let is = linkable-type b s.records type m ok in
      let far = through 340 (fixed_size type) (size_at b m) (least_size kind) (fixed_long b s h type m inside is) in
      word_kept b now (m + 68) (m + 72) (x.edit.part m type 68 72 inside is (x.avoids m 0 12 (inl (omega arith))) (x.avoids m 68 72 (inr (inl (omega arith, omega arith)))) (omega arith)) (m + vdr_num.place) 4 (omega arith) (omega arith)

  has_now : HasVariable now new mine
  has_now =
      let was : number b v vdr_vxr_head ≡ link_to no_node = (has good at).indexed.link_is ∙ ap link_to none in
      record { indexed = subst (IsIndex now new (number now v vdr_vxr_head)) (sym none) (no_index now new (number now v vdr_vxr_head) (early_same file repacked vdr_vxr_head (omega arith) ∙ was)); packed_by = x.packed_by }

  -- ---- the shape and the content

  -- no other variable has a record of this one
  pub only : (m : ℕ) → In m (variable_records own) → OnlyVariable b s kind before after m
  only m i = only_variable (sound good at) kind before own after at.was m i

  away : (xs : List ℕ) → ((m : ℕ) → In m xs → In m (all_variable_records s)) → ((m : ℕ) → In m (variable_records own) → In m xs → ⊥) → (m : ℕ) → In m xs → Away marks (type_at b m) m
  away xs sub out m i = x.beside m (sub m i) (λ j. out m j i)

  same_vdrs : vdrs (before ++ mine ∷ after) ≡ vdrs (shapes_of s kind)
  same_vdrs = vdrs_append before (mine ∷ after) ∙ sym (vdrs_append before (own ∷ after)) ∙ sym (ap vdrs at.was)

  gdr_same : (g : Field) → avoided marks gdr_type g.place (g.place + g.width) ≡ true → g.place + g.width ≤ 84 → number now s.gdr g ≡ number b s.gdr g
  gdr_same g clear l = gdr_field (sound good at) x.edit x.file_clear g clear l

  abbrev others : List VariableShape
  others = shapes_of s (other_kind kind)

  pub splices : VariableSplices b now s kind new list marks reborn before (own ∷ []) (mine ∷ []) after
  splices = record {
    edit = x.edit;
    was = at.was;
    file_clear = x.file_clear;
    attributes_clear = x.attributes_clear;
    other_clear = x.other_clear;
    before_remain = remain_from (sound good at) x.edit file before (ours good at).0 (variables_away (sound good at) x.edit before (ours good at).0 (away (flat_map variable_records before) (ours good at).0.sub (λ m i. (only m i).in_before)));
    after_remain = remain_from (sound good at) x.edit file after (after_ours good at) (variables_away (sound good at) x.edit after (after_ours good at) (away (flat_map variable_records after) (after_ours good at).sub (λ m i. (only m i).in_after)));
    others_live = variables_away (sound good at) x.edit others (kind_ours b s (sound good at) (other_kind kind)) (away (flat_map variable_records others) (kind_ours b s (sound good at) (other_kind kind)).sub (λ m i. (only m i).in_others));
    typed = x.typed;
    variable_chain = subst (λ (ms : List ℕ). IsChain now new type (number now s.gdr (head_of (variables_chain kind))) ms) (sym same_vdrs)
        (chain_stays x.edit type _ _ (vdrs (shapes_of s kind)) (kind_chain kind h) (gdr_same (head_of (variables_chain kind)) x.head_clear (in_gdr kind).0) (λ m i. x.avoids m 0 20 (inl (omega arith))));
    unused_chain = x.unused_chain;
    own_have = (has_now, tt);
  }

  pub same_shape : shape now ≡ with_shapes s kind new list (before ++ mine ∷ after)
  same_shape = shape_is now _ (shape_now (sound good at) splices)

  pub records_are : (shape now).records ≡ new
  records_are = ap (λ (y : Shape). y.records) same_shape

  pub among_now : StandsAmong now kind before mine after
  among_now = record { was = ap (λ (y : Shape). shapes_of y kind) same_shape ∙ by kind }
    where
      by : (k : Kind) → shapes_of (with_shapes s k new list (before ++ mine ∷ after)) k ≡ before ++ mine ∷ after
      by R = refl
      by Z = refl

  pub others_are : shapes_of (shape now) (other_kind kind) ≡ others
  others_are = ap (λ (y : Shape). shapes_of y (other_kind kind)) same_shape ∙ by kind
    where
      by : (k : Kind) → shapes_of (with_shapes s k new list (before ++ mine ∷ after)) (other_kind k) ≡ shapes_of s (other_kind k)
      by R = refl
      by Z = refl

  pub variable_is : variable_of now mine ≡ record (variable_of b own) { rle = is_compressed now v }
  variable_is = variable_repacked file own repacked none

  pub content_repacked : content now ≡ with_variables (content b) kind (slice_set (variables_of (content b) kind) (length before) (record (variable_of b own) { rle = is_compressed now v }))
  content_repacked = replaced_content good at splices ∙ ap (λ (u : Variable). with_variables (content b) kind (slice_set (variables_of (content b) kind) (length before) u)) variable_is

  -- ---- the rules

  count_same : number now (gdr_offset now) (count_of (variables_chain kind)) ≡ number b (gdr_offset b) (count_of (variables_chain kind))
  count_same =
      let g = count_of (variables_chain kind) in
      ap (λ (y : ℕ). number now y g) (gdr_place (sound good at) x.edit x.file_clear) ∙ gdr_same g x.count_clear (in_gdr kind).1 ∙ sym (ap (λ (y : ℕ). number b y g) h.gdr_is)

  counted : Hold (vdrs_rows kind now (vdrs (before ++ mine ∷ after)))
  counted =
      let same = vdrs_rows_kept kind b now (vdrs (shapes_of s kind)) (gdr_place (sound good at) x.edit x.file_clear ∙ sym h.gdr_is) count_same nums_same in
      subst (λ (ms : List ℕ). Hold (vdrs_rows kind now ms)) (sym same_vdrs) (subst Hold (sym same) (counted_before (good_by_its_shape b good) kind))

  pub good_if : Packs now new v → OwnedOnce now (with_shapes s kind new list (before ++ mine ∷ after)) → eof now s.gdr ≡ length now → length now ≤ image_limit → Good now
  good_if packs owned end short =
      let rows = subst (λ (n : Nodes). Hold (index_rows now new v n)) (sym none) (no_rules now new v) in
      replaced_good good at splices counted (rules_repacked file own repacked none s.records new (ruled_before good at splices).0 packs, rows) (replaced_named good at splices (name_same file repacked)) owned end short

  -- ---- what stays

  pub gdr_is : (shape now).gdr ≡ s.gdr
  gdr_is = ap (λ (y : Shape). y.gdr) same_shape

  pub attributes_are : (shape now).attributes ≡ s.attributes
  attributes_are = ap (λ (y : Shape). y.attributes) same_shape

  pub stand : (m : ℕ) → In m s.records → Kept b now m → Stood b now m
  stand = stood (sound good at) x.edit records_are

  beside : (vs : List VariableShape) → ((m : ℕ) → In m (flat_map variable_records vs) → In m (all_variable_records s)) → ((m : ℕ) → In m (variable_records own) → In m (flat_map variable_records vs) → ⊥) → (m : ℕ) → In m (flat_map variable_records vs) → Stood b now m
  beside vs sub out m i = let inside = variables_in b s (sound good at) m (sub m i) in stand m inside (kept_away x.edit m (type_at b m) inside refl (x.beside m (sub m i) (λ j. out m j i)))

  pub stay : (m : ℕ) → IsOther s.attributes before after others m → Stood b now m
  stay m (inl e) = subst (Stood b now) (sym e) (stand 8 (is_a-in b s.records cdr_type 8 h.cdr_stands) (cdr_kept (sound good at) x.edit x.file_clear))
  stay m (inr (inl i)) = stand m (all_attributes_in (sound good at) m i) (attributes_kept (sound good at) splices m i)
  stay m (inr (inr (inl i))) = beside before (ours good at).0.sub (λ m i. (only m i).in_before) m i
  stay m (inr (inr (inr (inl i)))) = beside after (after_ours good at).sub (λ m i. (only m i).in_after) m i
  stay m (inr (inr (inr (inr i)))) = beside others (kind_ours b s (sound good at) (other_kind kind)).sub (λ m i. (only m i).in_others) m i

  outside : (i : ℕ) → OutsideFields (vdr_flags ∷ vdr_cpr_or_spr_offset ∷ []) i → IsBeside i (i + 1)
  outside i o = elim o.0 [ inl l ↦ inl (omega (arith, l)) | inr l ↦ elim o.1.0 [ inl k ↦ inr (inl (omega (arith, l), omega (arith, k))) | inr k ↦ inr (inr (omega (arith, k))) ] ]

  pub descriptor : Stays b now v (vdr_flags ∷ vdr_cpr_or_spr_offset ∷ [])
  descriptor = record {
    stands = subst (In v) (sym records_are) (x.edit.sub v (tile good at));
    size_is = vdr_size;
    same = λ i lt out. (part i (i + 1) (outside i out) (omega (arith, lt))).each (v + i) (omega arith) (omega arith);
  }

  -- ---- the parts of a sound image

  pub fits_now : Each (λ (place : ℕ). is_a now new cpr_type place ≡ true) cpr → VariableFits now new mine
  fits_now cprs = (
    rw (vdr_size, end_same file own repacked none) (fits good at).0,
    subst (λ (n : Nodes). Each (NodeFits now) (nodes_of n)) (sym none) (no_nodes now),
    subst (λ (n : Nodes). Each (LeafFits now new v) (leaves_of n)) (sym none) (no_leaves now new v),
    cprs,
  )

  -- who owns what
  pub owners : (m k l : ℕ) → times m cpr + l ≡ times m own.cpr + k → used_times (with_shapes s kind new list (before ++ mine ∷ after)) m + l ≡ used_times s m + k
  owners m k l same = spliced_times s kind new list before (own ∷ []) (mine ∷ []) after at.was m k l
      (omega (arith, times-append m (variable_records mine) [], times-append m (variable_records own) [], parts_times own m, parts_times mine m, same))
