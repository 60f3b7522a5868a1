-- The nodes that a cut leaves are written, and VXRhead leads to them: what the image has then.
use Rattle.cdf_cuts.proofs.Common.{AreTiles, Distinct, Each, HasNodes, In, Leaf, List, Nodes, SameHeads, Span, [], arith, cases_eq, inl, inr, true, leaves_of, length, nodes_of, number, places_of, plan_of, refl, subst, sym, tile_lies, times, ℕ, ◌++◌, ◌+◌, ◌∙◌, ◌∷◌, ◌≡◌, ◌≢◌, ◌≤◌}
use Rattle.cdf_edits.proofs.Common.{AreFree, BlockFits, IsSound, LeafFits, VariableFits, cpr_type, cvvr_type, is_a, is_block, is_in, owned_records, record_bytes, records_of_leaf, type_at, variable_records, vvr_type, ◌&&◌, ◌==◌}
use Rattle.std.proofs.Common.{Bool, false, true≢false, ◌||◌}
use Rattle.std.proofs.Math.Nat.{mul-le-mul_right}
use Rattle.cdf_cuts.proofs.Common.{Kept, linkable-type, freed_of, suc, times-append, ◌⊎◌}
use Rattle.cdf_edits.proofs.Edits.Common.{Each-in, each, none_in_use, not_twice_kept, owned-times, sound_if, spliced_times, times-in, used_times}
use Rattle.cdf_edits.proofs.Edits.IndexEdited.{IndexEdit, file, stays, vdr_size}
use Rattle.cdf_edits.proofs.Edits.LeafPieces.{each_of, of_each}
use Rattle.cdf_edits.proofs.Edits.LeafPieces.{place_in as leaf_in}
use Rattle.cdf_edits.proofs.Edits.LeafRecords.{Ascending, count_is}
use Rattle.cdf_edits.proofs.Edits.OwnEdited.{splices}
use Rattle.cdf_edits.proofs.Edits.PlainLeaves.{own_rules}
use Rattle.cdf_edits.proofs.Edits.VariableCopied.{cpr_behind}
use Rattle.cdf_edits.proofs.Frame.VdrAlike.{block_fits_alike}
use Rattle.cdf_edits.proofs.Frame.VdrStays.{end_stays, stays_alike}
use Rattle.cdf_index.proofs.Common.{block_in, fits}
use Rattle.cdf_index.proofs.LeafRules.{index_order}
use Rattle.cdf_index.proofs.LeavesAscend.{leaves_ascend}
use Rattle.cdf_index.proofs.NewIndex.{block_kept, index_edit}
use Rattle.cdf_index.proofs.OwnRecords.{block_type, parts_times}
use Rattle.cdf_index.proofs.Common.{Good, IsChain, IsIndex, Kind, Mark, Shape, VariableShape, away-avoids, behind_in, field, gdr_uir_head, has, in-times, nodes_stand, shape, sound, times-once, uir_type, unmarked, unmarked-away, vdr_vxr_head, vxr_type}
use Rattle.cdf_edits.proofs.Common.{avoided, gdr_type, space_fields}
use Rattle.cdf_edits.proofs.Edits.Common.{StandsAmong, distinct_if, gdr_field, sizes_by_tiles, with_shapes}
use Rattle.cdf_edits.proofs.Edits.OwnEdited.{OwnEdit, same_shape}
use Rattle.cdf_edits.proofs.Edits.RecordFrame.{chain_stays}
use Rattle.cdf_edits.proofs.Edits.VariableCopied.{block_behind, node_behind}
use Rattle.cdf_index.proofs.NewIndex.{IndexTests, NewIndex, index_marks, own_edit}
use Rattle.cdf_index.specs.Replacing.{with_index}
use Rattle.cdf_cuts.specs.Linking.{IsLinked}
use Rattle.cdf_cuts.proofs.CutLeaves.{IsLeft, each_left, fewer_records}
use Rattle.cdf_cuts.proofs.PlanPlaces.{plan_frees}
use Rattle.cdf_cuts.proofs.CutStands.{cut_stands}
use Rattle.cdf_cuts.proofs.CutWords.{cut}
use Rattle.cdf_cuts.proofs.PlanPlaces.{plan_places, rewrites_stay}

pub record LinkTests (kind : Kind) (v : ℕ) (nodes : List ℕ) (limit : ℕ) : Type 0 where
  pub tests : IndexTests kind space_fields (index_marks kind v nodes (field 12 limit))
  pub unused_clear : unmarked (index_marks kind v nodes (field 12 limit)) uir_type ≡ true
  pub list_clear : avoided (index_marks kind v nodes (field 12 limit)) gdr_type 64 72 ≡ true
  pub end_clear : avoided (index_marks kind v nodes (field 12 limit)) gdr_type 36 44 ≡ true

pub link_tests : (kind : Kind) (v : ℕ) (nodes : List ℕ) (limit : ℕ) → LinkTests kind v nodes limit
link_tests kind v nodes limit = grind arith

pub once_most : (m : ℕ) (xs : List ℕ) → Distinct xs → times m xs ≤ 1
once_most m xs d = elim (cases_eq (times m xs) 0) [ inl z ↦ omega (arith, z) | inr ne ↦ omega (arith, times-once m xs d (in-times m xs (omega arith))) ]

module _ {b linked : List ℕ} {kind : Kind} {before : List VariableShape} {own : VariableShape} {after : List VariableShape} {span : Span} (good : Good b) (at : StandsAmong b kind before own after) (x : IsLinked b linked kind own span) where
  abbrev s : Shape
  s = shape b

  abbrev rest : Nodes
  rest = cut span own.index

  abbrev marks : List Mark
  marks = index_marks kind own.vdr (nodes_of own.index) (field 12 (length b))

  clear : LinkTests kind own.vdr (nodes_of own.index) (length b)
  clear = link_tests kind own.vdr (nodes_of own.index) (length b)

  pub heads : SameHeads b linked s.records s.records
  heads = record {
    sizes = sizes_by_tiles b linked 8 8 (length b) s.records refl (sound good at).has_shape.tiled (subst (λ (n : ℕ). AreTiles linked 8 n s.records) x.long x.edit.tiled_now);
    types = λ m i. elim (x.edit.kind m i) [ inl k ↦ k.1 | inr k ↦ elim k [ inl u ↦ absurd (u.0 i) | inr none ↦ absurd none ] ];
    sub = λ m i. i;
  }

  some : (m : ℕ) → In m (nodes_of own.index) → m ≢ 0
  some m i e = let l = tile_lies b 8 (length b) s.records m (sound good at).has_shape.tiled (behind_in good at m (node_behind own m i)) in absurd (omega (arith, l.low, e))

  pub has_rest : HasNodes linked s.records 8 rest
  has_rest = (cut_stands heads span 8 0 own.index (has good at).indexed.has_nodes some (λ m i. behind_in good at m (block_behind own m i)) x.done).0

  few : (m : ℕ) → times m (nodes_of rest) ≤ 1
  few m = omega (arith, rewrites_stay m span 0 own.index, (plan_places m span 0 own.index).0, once_most m (nodes_of own.index) (has good at).indexed.once)

  pub index_now : IsIndex linked s.records (number linked own.vdr vdr_vxr_head) rest
  index_now = record { link_is = x.head; has_nodes = has_rest; once = distinct_if (nodes_of rest) few }

  unused_now : IsChain linked s.records uir_type (number linked s.gdr gdr_uir_head) s.unused
  unused_now =
      let head = gdr_field (sound good at) x.edit clear.tests.file_clear gdr_uir_head clear.list_clear (omega arith) in
      chain_stays x.edit uir_type _ _ s.unused (sound good at).has_shape.unused_chain head (λ m i. away-avoids marks uir_type m 0 20 (unmarked-away marks uir_type m clear.unused_clear))

  pub linked_index : NewIndex b linked kind own rest s.records s.unused space_fields [] (nodes_of own.index) (field 12 (length b)) []
  linked_index = record { edit = x.edit; tests = clear.tests; unspaced = refl; own_nodes = λ m i j. inl j; typed_now = λ m i. absurd i; unused_chain = unused_now; index_now = index_now }

  pub linked_edit : OwnEdit b linked kind own rest s.records s.unused marks []
  linked_edit = own_edit good at linked_index

  abbrev pub s' : Shape
  s' = with_shapes s kind s.records s.unused (before ++ with_index own rest ∷ after)

  pub linked_shape : shape linked ≡ s'
  linked_shape = same_shape good at linked_edit

  -- ---- the blocks of the leaves that are left

  abbrev pub ie : IndexEdit b linked kind own rest s.records s.unused marks []
  ie = index_edit good at linked_index

  -- it begins before it ends, and ends where records may
  abbrev IsRange : Leaf → Type 0
  IsRange l = (l.first ≤ l.last) × (l.last ≤ 2147483646)

  ranges : (low : ℕ) (ls : List Leaf) → Ascending low 2147483647 ls → Each IsRange ls
  ranges low [] a = tt
  ranges low (l ∷ more) a = ((a.1, omega (arith, a.2)), ranges (suc l.last) more a.3)

  old_leaves : Each (λ (l : Leaf). (LeafFits b s.records own.vdr l × Kept b linked l.place) × IsRange l) (leaves_of own.index)
  old_leaves =
      let order = index_order b s.records own.vdr own.index (own_rules good at).1 in
      let all = ranges 0 (leaves_of own.index) (leaves_ascend 0 2147483646 own.index order (omega arith)) in
      each_of (λ (l : Leaf). (LeafFits b s.records own.vdr l × Kept b linked l.place) × IsRange l) (leaves_of own.index) (λ l i.
      ((of_each (LeafFits b s.records own.vdr) (leaves_of own.index) l (fits good at).2 i, block_kept good at linked_index l.place (leaf_in (leaves_of own.index) l i)), of_each IsRange (leaves_of own.index) l all i))

  shorter_fits : (l m : Leaf) (p : Bool) → m.place ≡ l.place → records_of_leaf m ≤ records_of_leaf l → BlockFits linked own.vdr l p → BlockFits linked own.vdr m p
  shorter_fits l m true e le f = rw e f
  shorter_fits l m false e le f = rw e (omega (arith, f, mul-le-mul_right (record_bytes linked own.vdr) le))

  leaf_now : span.first ≤ span.last → (l : Leaf) → (LeafFits b s.records own.vdr l × Kept b linked l.place) × IsRange l → (m : Leaf) → IsLeft span l m → LeafFits linked s.records own.vdr m
  leaf_now o l f m left =
      let i = block_in b s.records l.place f.0.0.0 in
      let t = heads.types l.place i in
      let same : is_block linked s.records l.place ≡ is_block b s.records l.place = λ k. (is_in l.place s.records && (t k == vvr_type)) || (is_in l.place s.records && (t k == cvvr_type)) in
      let less = fewer_records span l m o f.1.0 left in
      let count : records_of_leaf m ≤ records_of_leaf l = omega (arith, count_is l f.1.1 f.1.0, count_is m (omega (arith, less.most, f.1.1)) less.order, less.fewer, f.1.0, less.order) in
      let alike = stays_alike (file good at ie) (stays good at ie) in
      let block = shorter_fits l m l.packed left.place_is count (block_fits_alike (file good at ie) alike l l.packed f.0.1 f.0.0.1) in
      (rw left.place_is (same ∙ f.0.0.0), subst (λ (p : Bool). BlockFits linked own.vdr m p) (sym left.packed_is) block)

  cpr_now : (m : ℕ) → In m own.cpr → is_a linked s.records cpr_type m ≡ true
  cpr_now m i =
      let was = behind_in good at m (cpr_behind own m i) in
      let is = Each-in (λ c. is_a b s.records cpr_type c ≡ true) own.cpr (fits good at).3 m i in
      let t = heads.types m was in
      (λ k. is_in m s.records && (t k == cpr_type)) ∙ is

  fits_now : span.first ≤ span.last → VariableFits linked s.records (with_index own rest)
  fits_now o = (
    rw (vdr_size good at ie, end_stays (file good at ie) (stays good at ie)) (fits good at).0,
    x.fits,
    each_left span (λ (l : Leaf). (LeafFits b s.records own.vdr l × Kept b linked l.place) × IsRange l) (LeafFits linked s.records own.vdr) (leaf_now o) own.index old_leaves,
    each (λ m. is_a linked s.records cpr_type m ≡ true) own.cpr cpr_now,
  )

  -- ---- the owners

  abbrev freed : List ℕ
  freed = freed_of (plan_of span 0 own.index)

  pub used_now : (m : ℕ) → used_times s' m + times m freed ≡ used_times s m
  used_now m = spliced_times s kind s.records s.unused before (own ∷ []) (with_index own rest ∷ []) after at.was m 0 (times m freed)
      (omega (arith, times-append m (variable_records (with_index own rest)) [], times-append m (variable_records own) [], parts_times own m, parts_times (with_index own rest) m, plan_frees m span 0 own.index)) ∙ omega arith

  pub used_most : (m : ℕ) → used_times s m ≤ 1
  used_most m = omega (arith, (sound good at).not_twice m, owned-times b s m)

  pub linked_sound : span.first ≤ span.last → IsSound linked (shape linked)
  linked_sound o = subst (IsSound linked) (sym linked_shape) (sound_if (sound good at) (splices good at linked_edit) (fits_now o, tt)
      (not_twice_kept b linked s s' marks [] (sound good at) x.edit (λ m out. omega (arith, used_now m)) (λ m i. absurd i)))

  -- ---- what is left over

  pub freed_own : (m : ℕ) → In m freed → In m (nodes_of own.index) ⊎ In m (places_of (leaves_of own.index))
  freed_own m i =
      let one = times-in m freed i in
      let all = plan_frees m span 0 own.index in
      elim (cases_eq (times m (nodes_of own.index)) 0) [
        | inl z ↦ inr (in-times m (places_of (leaves_of own.index)) (omega (arith, one, all, z)))
        | inr ne ↦ inl (in-times m (nodes_of own.index) (omega arith))
      ]

  pub freed_in : (m : ℕ) → In m freed → In m s.records
  freed_in m i = elim (freed_own m i) [ inl j ↦ behind_in good at m (node_behind own m j) | inr j ↦ behind_in good at m (block_behind own m j) ]

  pub freed_typed : (m : ℕ) → In m freed → is_in (type_at b m) (vxr_type ∷ vvr_type ∷ cvvr_type ∷ []) ≡ true
  freed_typed m i = elim (freed_own m i) [
    | inl j ↦ rw (linkable-type b s.records vxr_type m (nodes_stand b s.records 8 own.index (has good at).indexed.has_nodes m j)) refl
    | inr j ↦ elim (block_type b s.records own.vdr (leaves_of own.index) (fits good at).2 m j) [ inl t ↦ rw t refl | inr t ↦ rw t refl ]
  ]

  freed_used : (m : ℕ) → In m freed → type_at linked m ≢ uir_type
  freed_used m i u = let t = freed_typed m i in let e : type_at b m ≡ uir_type = sym (heads.types m (freed_in m i)) ∙ u in absurd (true≢false (sym (rw e at t)))

  pub left_free : AreFree linked freed
  left_free = record {
    stand = λ m i. subst (λ (y : Shape). In m y.records) (sym linked_shape) (freed_in m i);
    unowned = λ m i. subst (λ (y : Shape). times m (owned_records linked y) ≡ 0) (sym linked_shape) (none_in_use linked s' x.edit.tiled_now m (freed_used m i) (omega (arith, used_now m, used_most m, times-in m freed i)));
    once = distinct_if freed (λ m. omega (arith, used_now m, used_most m));
  }
