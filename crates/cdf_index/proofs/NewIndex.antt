-- One variable has another index by now, and an edit met its VXRhead and VXRtail, nodes and unused records alone: what follows of the image, and what each record keeps.
use Rattle.cdf_index.proofs.Common.{fits, has, typed, Act, AllKeep, Allowances, Among, Anything, Avoids, Avoids-append, Away, Away-append, Distinct, Each, Each-in, Field, Good, Hold, In, In-append, IsChain, Kept, Kind, List, ◌<◌, Mark, NodeFits, Nodes, OneVariable, Only, OutsideFields, OwnedOnce, Same, Shape, StandsAmong, VariableShape, Within, Within-append, [], after_ours, all_unmarked, all_unmarked-away, all_variable_records, ap, apart, arith, attributes_kept, avoided, away-avoids, away-within, behind_in, cdr_kept, cdr_type, count_of, cpr_type, cvvr_type, eof, false, fixed_size, flat_map, gdr_in, gdr_type, gdr_typed, gdr_uir_head, good_by_its_shape, has_room, head_of, image_limit, index_rows, inl, inr, is_a, is_a-in, is_a-type, is_in, is_max_rec, is_record_type, is_taken, keep_all, keep_file, keep_kinds, keep_places, keep_unused, keep_variable_parts, keeps_all_attributes, keeps_fields, keeps_file, keeps_kind, kept, kept_away, kind_ours, leaves_of, length, linkable-in, linkable-type, long, mark, nodes_of, nodes_stand, number, of_le, other_kind, ours, own_rules, owned, places_of, refl, room_at, shape, shapes_of, signed_limit, size_at, sound, spliced_times, stood, subst, suc, sym, the_one, through, tile, tile_lies, times, times-append, times-none, times-once, true, type_at, type_in, uir_next_uir, uir_prev_uir, uir_type, unmarked, unmarked-away, variable_records, variable_typed, variable_types, variables_chain, variables_in, vdr_max_rec, vdr_vxr_head, vdr_vxr_tail, vvr_type, vxr_n_used_entries, vxr_type, with_shapes, within, word_kept, ℕ, ◌*◌, ◌++◌, ◌+◌, ◌∙◌, ◌∷◌, ◌≡◌, ◌≢◌, ◌≤◌, ◌⊎◌}
use Rattle.cdf_edits.proofs.Common.{IsIndex, Keeps, Stays, Edit}
use Rattle.cdf_edits.proofs.Commands.KeptRecords.{Stood, keep_attributes, keep_variables, keeps_stood}
use Rattle.cdf_edits.proofs.Edits.IndexEdited as of_index
use Rattle.cdf_edits.proofs.Edits.OwnEdited.{OwnEdit, only, records_are, splices}
use Rattle.cdf_edits.proofs.Edits.OwnedOnce.{IsSorted, all_attributes_in, fresh_unowned, owned_once_if, sorted_before, used_times}
use Rattle.cdf_edits.proofs.Edits.RecordPlaced.{links_mark}
use Rattle.cdf_edits.proofs.Edits.VariableCopied.{block_behind, cpr_behind, node_behind}
use Rattle.cdf_index.specs.Adding.{Counts}
use Rattle.cdf_index.proofs.OwnRecords.{block_type, parts_times}

-- ---- marks

-- VXRhead and VXRtail of a descriptor, and these bytes of nodes
abbrev pub index_marks : Kind → ℕ → List ℕ → Field → List Mark
index_marks kind v nodes f = links_mark kind v ∷ mark vxr_type (Among nodes) f ∷ []

-- which records the marks leave by their types alone, and that those in the GDR are in these fields
pub record IndexTests (kind : Kind) (fields : List Field) (marks : List Mark) : Type 0 where
  pub file_clear : keeps_file marks ≡ true
  pub attributes_clear : keeps_all_attributes marks ≡ true
  pub other_clear : keeps_kind marks (other_kind kind) ≡ true
  pub blocks_clear : unmarked marks vvr_type ≡ true
  pub packed_clear : unmarked marks cvvr_type ≡ true
  pub cpr_clear : unmarked marks cpr_type ≡ true
  pub head_clear : avoided marks gdr_type (head_of (variables_chain kind)).place ((head_of (variables_chain kind)).place + (head_of (variables_chain kind)).width) ≡ true
  pub count_clear : avoided marks gdr_type (count_of (variables_chain kind)).place ((count_of (variables_chain kind)).place + (count_of (variables_chain kind)).width) ≡ true
  pub max_clear : avoided marks gdr_type 52 56 ≡ true
  pub heads_clear : avoided marks gdr_type 0 12 ≡ true
  pub inside : within marks gdr_type fields ≡ true

-- space is taken or freed, and the index becomes another one
pub record NewIndex (b now : List ℕ) (kind : Kind) (own : VariableShape) (index : Nodes) (new list : List ℕ) (fields : List Field) (space : List Mark) (nodes : List ℕ) (f : Field) (reborn : List ℕ) : Type 0 where
  pub edit : Edit b now (shape b).records new (space ++ index_marks kind own.vdr nodes f) reborn
  pub tests : IndexTests kind fields (space ++ index_marks kind own.vdr nodes f)
  pub unspaced : all_unmarked space variable_types ≡ true
  pub own_nodes : (m : ℕ) → In m (shape b).records → In m nodes → In m (nodes_of own.index) ⊎ (type_at b m ≡ uir_type)
  pub typed_now : (m : ℕ) → In m reborn → (is_record_type (type_at now m) ≡ true) × (fixed_size (type_at now m) ≤ size_at now m)
  pub unused_chain : IsChain now new uir_type (number now (shape b).gdr gdr_uir_head) list
  pub index_now : IsIndex now new (number now own.vdr vdr_vxr_head) index

-- which records are taken for the index and in use by then, and which nodes of it are freed
pub record Exchanged (b now : List ℕ) (own : VariableShape) (index : Nodes) (reborn taken freed : List ℕ) : Type 0 where
  pub are_reborn : (m : ℕ) → In m reborn → In m taken ⊎ In m freed
  pub reborn_are : (m : ℕ) → In m taken ⊎ In m freed → In m reborn
  pub times_are : (m : ℕ) → times m (nodes_of index) + times m (places_of (leaves_of index)) + times m freed ≡ times m (nodes_of own.index) + times m (places_of (leaves_of own.index)) + times m taken
  pub fresh : (m : ℕ) → In m taken → In m (shape b).records → type_at b m ≡ uir_type
  pub taken_once : Distinct taken
  pub in_use : (m : ℕ) → In m taken → type_at now m ≢ uir_type
  pub were_nodes : (m : ℕ) → In m freed → In m (nodes_of own.index)
  pub freed_once : Distinct freed
  pub out_of_use : (m : ℕ) → In m freed → type_at now m ≡ uir_type

pub vdr_of_variable : (kind : Kind) → is_in (type_in (variables_chain kind)) variable_types ≡ true
vdr_of_variable kind = grind arith

pub vdr_no_node : (kind : Kind) → type_in (variables_chain kind) ≡ vxr_type → ⊥
vdr_no_node kind e = grind arith

pub index_unmarked : (kind : Kind) (v : ℕ) (nodes : List ℕ) (f : Field) → unmarked (index_marks kind v nodes f) uir_type ≡ true
index_unmarked kind v nodes f = grind arith

abbrev heads : List Field
heads = vdr_vxr_head ∷ vdr_vxr_tail ∷ []

abbrev links : List Field
links = uir_next_uir ∷ uir_prev_uir ∷ []

aside : (front : List Field) (n : ℕ) → OutsideFields (front ++ heads) n → (n + 1 ≤ 28) ⊎ (44 ≤ n)
aside [] n out = elim out.0 [ inl x ↦ inl (omega arith) | inr x ↦ elim out.1.0 [ inl y ↦ absurd (omega arith) | inr y ↦ inr y ] ]
aside (f ∷ front) n out = aside front n out.1

module _ {b now : List ℕ} {kind : Kind} {before : List VariableShape} {own : VariableShape} {after : List VariableShape} {index : Nodes} {new list : List ℕ} {fields : List Field} {space : List Mark} {nodes : List ℕ} {f : Field} {reborn : List ℕ} (good : Good b) (at : StandsAmong b kind before own after)
    (x : NewIndex b now kind own index new list fields space nodes f reborn) where
  abbrev s : Shape
  s = shape b

  abbrev v : ℕ
  v = own.vdr

  abbrev type : ℕ
  type = type_in (variables_chain kind)

  abbrev entries : List Mark
  entries = index_marks kind v nodes f

  -- records of variables that are not of this one
  beside : (m : ℕ) → In m (all_variable_records s) → (In m (variable_records own) → ⊥) → Away (space ++ entries) (type_at b m) m
  beside m i out =
      Away-append space entries (type_at b m) m (all_unmarked-away space variable_types (type_at b m) m x.unspaced (variable_typed b s (sound good at) m i)) (
        (λ same lies. out (inl (the_one v m lies))),
        ((λ same j. elim (x.own_nodes m (variables_in b s (sound good at) m i) j) [ inl k ↦ out (inr (node_behind own m k)) | inr u ↦ apart vxr_type uir_type refl (sym same ∙ u) ]), tt),
      )

  avoids : (m lo hi : ℕ) → (hi ≤ 28) ⊎ (44 ≤ lo) → Avoids (space ++ entries) type m lo hi
  avoids m lo hi side =
      Avoids-append space entries type m lo hi (away-avoids space type m lo hi (all_unmarked-away space variable_types type m x.unspaced (vdr_of_variable kind)))
      ((λ same lies. side), ((λ same lies. absurd (vdr_no_node kind same)), tt))

  part : (lo hi : ℕ) → (hi ≤ 28) ⊎ (44 ≤ lo) → hi ≤ size_at b v → Same b now (v + lo) (v + hi)
  part lo hi side fit = x.edit.part v type lo hi (tile good at) (typed good at) (avoids v 0 12 (inl (omega arith))) (avoids v lo hi side) fit

  -- ---- the edit of one variable

  pub index_edit : of_index.IndexEdit b now kind own index new list (space ++ entries) reborn
  index_edit =
      let avoid : (m lo hi : ℕ) → (hi ≤ 24) ⊎ (44 ≤ lo) → Avoids (space ++ entries) type m lo hi = λ m lo hi side. avoids m lo hi (elim side [ inl l ↦ inl (omega arith) | inr l ↦ inr l ]) in
      search (x, x.tests, beside)

  pub own_edit : OwnEdit b now kind own index new list (space ++ entries) reborn
  own_edit = of_index.own_edit good at index_edit

  pub max_rec_kept : number now v vdr_max_rec ≡ number b v vdr_max_rec
  max_rec_kept = word_kept b now (v + 24) (v + 28) (part 24 28 (inl (omega arith)) (through 28 340 (size_at b v) (omega arith) (long good at))) (v + 24) 4 (omega arith) (omega arith)

  pub block_kept : (m : ℕ) → In m (places_of (leaves_of own.index)) → Kept b now m
  block_kept m i =
      let stands = behind_in good at m (block_behind own m i) in
      elim (block_type b s.records v (leaves_of own.index) (fits good at).2 m i) [ inl t ↦ kept x.edit m vvr_type stands t x.tests.blocks_clear | inr t ↦ kept x.edit m cvvr_type stands t x.tests.packed_clear ]

  -- ---- what each record keeps

  module _ (may : Allowances) (acts : List Act) (front : List Field) (gdr_may : may.gdr ≡ Only fields) (vdr_may : may.variables kind (length before) v ≡ Only (front ++ heads)) (node_may : (m : ℕ) → In m (nodes_of own.index) → may.variables kind (length before) m ≡ Anything)
      (listed : (m : ℕ) → In m s.unused → 12 ≤ size_at b m → is_taken b acts m ≡ false → Avoids space uir_type m 0 12 × Within space uir_type m links) (unlisted : (m : ℕ) → In m s.records → (In m s.unused → ⊥) → Away space uir_type m) where
    same : (shape now).records ≡ new
    same = records_are good at own_edit

    stands : (m : ℕ) → In m s.records → Kept b now m → Stood b now m
    stands = stood (sound good at) x.edit same

    other : (vs : List VariableShape) → ((m : ℕ) → In m (flat_map variable_records vs) → In m (all_variable_records s)) → ((m : ℕ) → In m (variable_records own) → In m (flat_map variable_records vs) → ⊥) → (m : ℕ) → In m (flat_map variable_records vs) → Stood b now m
    other vs sub out m i =
        let inside = variables_in b s (sound good at) m (sub m i) in
        stands m inside (kept_away x.edit m (type_at b m) inside refl (beside m (sub m i) (λ j. out m j i)))

    vdr_keeps : Stays b now v (front ++ heads)
    vdr_keeps =
        let there = subst (In v) (sym same) (x.edit.sub v (tile good at)) in
        let outside = λ (n : ℕ) (lt : n < size_at b v) (out : OutsideFields (front ++ heads) n). (part n (n + 1) (aside front n out) (omega arith)).each (v + n) (omega arith) (omega arith) in
        search (there, outside, of_index.vdr_size good at index_edit)

    cpr_stands : (m : ℕ) → In m own.cpr → Kept b now m
    cpr_stands m c = kept x.edit m cpr_type (behind_in good at m (cpr_behind own m c)) (is_a-type b s.records cpr_type m (Each-in (λ y. is_a b s.records cpr_type y ≡ true) own.cpr (fits good at).3 m c)) x.tests.cpr_clear

    own_keeps : (m : ℕ) → In m (variable_records own) → Keeps b now m (may.variables kind (length before) m)
    own_keeps m (inl q) = rw (q, vdr_may) vdr_keeps
    own_keeps m (inr j) = elim (In-append m (nodes_of own.index ++ places_of (leaves_of own.index)) own.cpr j) [
      | inr c ↦ keeps_stood b now m (stands m (behind_in good at m j) (cpr_stands m c)) _
      | inl k ↦ elim (In-append m (nodes_of own.index) (places_of (leaves_of own.index)) k) [
        | inl n ↦ rw (node_may m n) tt
        | inr n ↦ keeps_stood b now m (stands m (behind_in good at m j) (block_kept m n)) _
      ]
    ]

    away : (m : ℕ) → Away entries uir_type m
    away m = unmarked-away entries uir_type m (index_unmarked kind v nodes f)

    listed_all : (m : ℕ) → In m s.unused → is_taken b acts m ≡ false → Avoids (space ++ entries) uir_type m 0 12 × Within (space ++ entries) uir_type m links
    listed_all m i free =
        let w = listed m i (tile_lies b 8 (length b) s.records m (sound good at).has_shape.tiled (linkable-in b s.records uir_type m ((sound good at).has_shape.unused_chain.linkable m i))).long free in
        (Avoids-append space entries uir_type m 0 12 w.0 (away-avoids entries uir_type m 0 12 (away m)), Within-append space entries uir_type m links w.1 (away-within entries uir_type m links (away m)))

    pub index_keeps : AllKeep b now may acts (owned b s)
    index_keeps =
        let h = (sound good at).has_shape in
        let front = keep_variables b now may acts kind 0 before (other before (ours good at).0.sub (λ m i. (only good at own_edit m i).in_before)) in
        let back = keep_variables b now may acts kind (suc (length before)) after (other after (after_ours good at).sub (λ m i. (only good at own_edit m i).in_after)) in
        let others = keep_variables b now may acts (other_kind kind) 0 (shapes_of s (other_kind kind)) (other (shapes_of s (other_kind kind)) (kind_ours b s (sound good at) (other_kind kind)).sub (λ m i. (only good at own_edit m i).in_others)) in
        let both = keep_kinds b now may acts kind (keep_variable_parts b now may acts kind before own after at.was front (keep_places b now may acts (OneVariable kind (length before)) (variable_records own) own_keeps) back) others in
        let cdr = is_a-in b s.records cdr_type 8 h.cdr_stands in
        let gdr = keeps_fields (sound good at) x.edit same s.gdr gdr_type fields (gdr_in b s h) (gdr_typed b s h) x.tests.heads_clear x.tests.inside in
        keep_all b now may acts (keep_file b now may acts (sound good at) (keeps_stood b now 8 (stands 8 cdr (cdr_kept (sound good at) x.edit x.tests.file_clear)) may.cdr) (subst (Keeps b now s.gdr) (sym gdr_may) gdr))
        (keep_attributes b now may acts 0 s.attributes (λ m i. stands m (all_attributes_in (sound good at) m i) (attributes_kept (sound good at) (splices good at own_edit) m i))) both.0 both.1
        (keep_unused (sound good at) x.edit same may acts listed_all (λ m i out. Away-append space entries uir_type m (unlisted m i out) (away m)))

  -- ---- the nodes

  pub node_room : Each (NodeFits now) (nodes_of index) → Each (Counts now) (nodes_of index) → length now ≤ image_limit → (m : ℕ) → In m (nodes_of index) → has_room now m ≡ true
  node_room all_fit all_count short m i =
      let fit = (Each-in (NodeFits now) (nodes_of index) all_fit m i).0 in
      let count : number now m vxr_n_used_entries ≤ room_at now m = Each-in (Counts now) (nodes_of index) all_count m i in
      let high = (tile_lies now 8 (length now) new m x.edit.tiled_now (linkable-in now new vxr_type m (nodes_stand now new 8 index x.index_now.has_nodes m i))).high in
      rw (of_le (number now m vxr_n_used_entries) (room_at now m) count, of_le (room_at now m) signed_limit (omega arith), of_le (28 + 16 * room_at now m) (size_at now m) fit) refl

  -- ---- the owners

  abbrev mine : VariableShape
  mine = record own { index = index }

  module _ (taken freed : List ℕ) (y : Exchanged b now own index reborn taken freed) where
    abbrev after_it : Shape
    after_it = with_shapes s kind new list (before ++ mine ∷ after)

    used_after : (m : ℕ) → used_times after_it m + times m freed ≡ used_times s m + times m taken
    used_after m = spliced_times s kind new list before (own ∷ []) (mine ∷ []) after at.was m (times m taken) (times m freed) (omega (arith, times-append m (variable_records mine) [], times-append m (variable_records own) [], parts_times own m, parts_times mine m, y.times_are m))

    was_node : (m : ℕ) → In m freed → In m s.records × (type_at b m ≡ vxr_type)
    was_node m i = let l = nodes_stand b s.records 8 own.index (has good at).indexed.has_nodes m (y.were_nodes m i) in (linkable-in b s.records vxr_type m l, linkable-type b s.records vxr_type m l)

    none_both : (m : ℕ) → In m taken → In m freed → ⊥
    none_both m i j = apart vxr_type uir_type refl (sym (was_node m j).1 ∙ y.fresh m i (was_node m j).0)

    sorted : (m : ℕ) → In m taken ⊎ In m freed → IsSorted now after_it m
    sorted m (inl i) = inl (y.in_use m i, omega (arith, used_after m, fresh_unowned (sound good at) m (y.fresh m i), times-once m taken y.taken_once i, times-none m freed (none_both m i)))
    sorted m (inr i) = grind (arith, sorted_before (sound good at) (good_by_its_shape b good).owned_once m (was_node m i).0, was_node m i, y.out_of_use m i, used_after m, times-once m freed y.freed_once i, times-none m taken (λ k. none_both m k i))

    owned_now : OwnedOnce now after_it
    owned_now = owned_once_if b now s after_it (space ++ entries) reborn (sound good at) (good_by_its_shape b good).owned_once x.edit (λ m out. omega (arith, used_after m, times-none m taken (λ i. out (y.reborn_are m (inl i))), times-none m freed (λ i. out (y.reborn_are m (inr i))))) (λ m i. sorted m (y.are_reborn m i))

    pub good_now : Hold (index_rows now new v index) → eof now s.gdr ≡ length now → length now ≤ image_limit → Good now
    good_now rows end short = of_index.good_now good at index_edit rows (ap is_max_rec max_rec_kept ∙ (own_rules good at).0.1.1.1.1.1.1.1.0) owned_now end short
