-- A record was taken for the block of a leaf, and its entry names it: the image is sound, and has the index in which the leaf has another place; the old record has no owner.
use Rattle.cdf_blocks.proofs.Common.{Bool, In, IsOneOf, Leaf, List, Nodes, [], ap, arith, false, inl, inr, length, refl, room_at, subst, sym, times, times-none, times-once, true, used_count, vxr_type, ℕ, ◌*◌, ◌++◌, ◌+◌, ◌-◌, ◌<◌, ◌∙◌, ◌∷◌, ◌≡◌, ◌≢◌, ◌≤◌, ◌⊎◌}
unfoldable use Rattle.cdf_blocks.proofs.Common.{leaves_of, nodes_of, with_range}
use Rattle.cdf_edits.proofs.Common.{AreFree, Edit, Good, HasShape, Hold, IsChain, IsSound, Kind, LeafFits, Mark, Shape, Took, VariableShape, cvvr_type, field, fixed_size, gdr_type, gdr_uir_head, image_limit, is_compressed, is_in, is_record_type, leaf_rows, number, owned_records, plain_size, r_max_rec_field, record_bytes, record_number_limit, shape, size_at, size_kept, space_fields, type_at, type_kept, uir_type, vvr_type}
use Rattle.cdf_edits.proofs.Edits.Common.{Kept, StandsAmong, apart, chain_stays, edit_then, gdr_field, head_type, none_in_use, not_twice_kept, owned-times, some_bytes, sound, sound_if, used_times, with_shapes}
use Rattle.cdf_edits.proofs.Edits.IndexEdited.{IndexEdit}
use Rattle.cdf_edits.proofs.Edits.IndexEdited as of_index
use Rattle.cdf_edits.proofs.Edits.OwnEdited.{same_shape, splices}
use Rattle.cdf_edits.proofs.Edits.MadeRecord.{filled_size}
use Rattle.cdf_edits.proofs.Edits.MadeRecord.{place_in as placed_in}
use Rattle.cdf_edits.proofs.Edits.MarkLemmas.{away-avoids, unmarked-away}
use Rattle.cdf_edits.proofs.Edits.TakenAll.{TakenAll, none_taken, taken_then, taking_all}
use Rattle.cdf_edits.proofs.Frame.VdrStays.{packed_stays, stays_alike}
use Rattle.cdf_edits.specs.Space.Placing.{Placed}
use Rattle.cdf_index.proofs.Common.{EntrySet}
use Rattle.cdf_index.proofs.NewIndex.{IndexTests, NewIndex, index_marks, index_unmarked, own_edit, index_edit}
use Rattle.cdf_index.proofs.TreeTouched.{Touched}
use Rattle.cdf_index.specs.Replacing.{with_index}
use Rattle.cdf_leaves.proofs.Spares.{Spares}
use Rattle.cdf_blocks.specs.Blocks.{LiesIn, StoredAs, block_body, type_of_block}
use Rattle.cdf_blocks.proofs.BlockBytes.{BlockIs, BlockStands, block_is}
use Rattle.cdf_blocks.proofs.BlockOf.{block_in, block_typed, in_places, size_is}
use Rattle.cdf_blocks.proofs.EntryNamed.{Between, NodeBut, entries_clear}
use Rattle.cdf_blocks.proofs.EntryNamed as of_entry
use Rattle.cdf_blocks.proofs.KeptRules.{all_fit, leaf_stays}
use Rattle.cdf_blocks.proofs.NewBlock.{NewBlock, block_now, body_is, body_long}
use Rattle.cdf_blocks.proofs.PlacedLeaf.{nodes_stay}
use Rattle.cdf_edits.proofs.Edits.RecordPlaced.{Grows, placed_grows, placing_marks}
use Rattle.cdf_edits.proofs.Edits.RecordGrown.{Grew, grew, unlike}
use Rattle.cdf_edits.proofs.Edits.Common.{IsHeld}
use Rattle.cdf_edits.proofs.Edits.OwnedOnce.{fresh_unowned}
use Rattle.cdf_edits.proofs.Edits.LeafPieces.{place_in}
use Rattle.cdf_edits.proofs.Frame.VdrAlike.{plain_alike}
use Rattle.cdf_index.proofs.NewIndex.{block_kept}
use Rattle.cdf_edits.proofs.Common.{Away, Same}
unfoldable use Rattle.cdf_blocks.proofs.Common.{InOrder}
use Rattle.cdf_blocks.proofs.Common.{SaysEntry}
use Rattle.cdf_leaves.proofs.Own as of_own

-- ---- marks

leaf_tests : (kind : Kind) (v : ℕ) (unused places nodes : List ℕ) (need most : ℕ) → IndexTests kind (r_max_rec_field kind ++ space_fields) (taking_all unused places need ++ index_marks kind v nodes (field 12 most))
leaf_tests kind v unused places nodes need most = grind arith

-- ---- blocks by their types

pub used_block : (packed : Bool) (t : ℕ) → t ≡ type_of_block packed → (t ≢ uir_type) × (t ≢ gdr_type) × (is_in t (vvr_type ∷ cvvr_type ∷ []) ≡ true)
used_block true t e = rw e (apart cvvr_type uir_type refl, apart cvvr_type gdr_type refl, refl)
used_block false t e = rw e (apart vvr_type uir_type refl, apart vvr_type gdr_type refl, refl)

module _ {b filled linked : List ℕ} {kind : Kind} {before : List VariableShape} {own : VariableShape} {after : List VariableShape} (good : Good b) (at : StandsAmong b kind before own after) (old new : Leaf) (one : IsOneOf (leaves_of own.index) old) (lies : LiesIn old new.first new.last) (bytes : List ℕ) (x i : ℕ) (x_in : In x (nodes_of own.index)) (used : i < used_count b x) (says : SaysEntry b x i old.first old.last old.place)
    (block : Placed b filled (block_body new.packed bytes) new.place) (set : EntrySet filled linked x i new.first new.last new.place) where
  abbrev s : Shape
  s = shape b

  abbrev pub need : ℕ
  need = 8 + length (block_body new.packed bytes)

  abbrev pub index' : Nodes
  index' = with_range old.first new own.index

  abbrev nodes : List ℕ
  nodes = nodes_of own.index

  abbrev rs : List ℕ
  rs = (shape filled).records

  abbrev leaves : List Leaf
  leaves = leaves_of own.index

  grows_first : Grows b filled (placing_marks s.unused new.place need) (new.place ∷ [])
  grows_first = placed_grows (sound good at) block.fills

  pub taking : TakenAll b filled (Took new.place need ∷ []) (new.place ∷ []) need
  taking = taken_then (sound good at) block.fills (omega arith) (none_taken grows_first.sound grows_first.end_is)

  abbrev pub space : List Mark
  space = taking_all s.unused (new.place ∷ []) need

  abbrev pub entries : List Mark
  entries = index_marks kind own.vdr nodes (field 12 (length filled))

  pub late : Grew b filled
  late = grew (sound good at) block.fills

  h' : HasShape filled (shape filled)
  h' = taking.grows.sound.has_shape

  -- ---- the new record, and the old one

  pub new_in : In new.place rs
  new_in = placed_in (sound good at) block.fills

  pub new_filled : type_at filled new.place ≡ type_of_block new.packed
  new_filled = block.fills.typed ∙ (body_is new.packed bytes).0

  pub size_filled : size_at filled new.place ≡ need
  size_filled = filled_size (sound good at) block.fills

  old_used : type_at b old.place ≢ uir_type
  old_used = (used_block old.packed (type_at b old.place) (block_typed good at old one)).0

  pub apart_places : old.place ≢ new.place
  apart_places = unlike (sound good at) block.fills old.place (block_in good at old one) old_used

  pub old_head : Same b filled (old.place + 0) (old.place + 12)
  old_head = taking.grows.edit.head old.place (block_in good at old one) old_used (λ j. elim j [ inl e ↦ apart_places e | inr none ↦ none ])

  pub old_in : In old.place rs
  old_in = taking.grows.edit.sub old.place (block_in good at old one)

  pub old_filled : type_at filled old.place ≡ type_of_block old.packed
  old_filled = head_type b filled old.place old_head ∙ block_typed good at old one

  -- ---- the entry

  way : Between b filled rs own
  way = record {
    tiled = h'.tiled;
    some = some_bytes filled (shape filled) h';
    vdr_in = of_own.vdr_in good at late;
    vdr_kept = of_own.vdr_kept good at late;
    node_in = λ m j. late.sub m (of_own.own_node good at m j).0;
    node_kept = of_own.node_kept good at late;
    has_nodes = (of_own.now_has good at late).indexed.has_nodes;
    blocks = of_own.now_blocks good at late;
  }

  pub t : Touched filled linked rs x
  t = of_entry.t good at old new one lies x i x_in used says way old_filled new_filled new_in set

  pub new_typed : type_at linked new.place ≡ type_of_block new.packed
  new_typed = of_entry.new_typed good at old new one lies x i x_in used says way old_filled new_filled new_in set

  pub old_typed : type_at linked old.place ≡ type_of_block old.packed
  old_typed = of_entry.old_typed good at old new one lies x i x_in used says way old_filled new_filled new_in set

  pub node_filled : (m : ℕ) → In m nodes → In m rs × (type_at filled m ≡ vxr_type)
  node_filled m j = (way.node_in m j, of_entry.node_mid good at old new one lies x i x_in used says way old_filled new_filled new_in set m j)

  pub vdr_linked : Kept filled linked own.vdr
  vdr_linked = of_entry.vdr_set good at old new one lies x i x_in used says way old_filled new_filled new_in set

  -- ---- as an edit

  pub entry_edit : Edit filled linked rs rs entries []
  entry_edit = of_entry.entry_edit good at old new one lies x i x_in used says way old_filled new_filled new_in set

  edit : Edit b linked s.records rs (space ++ entries) (new.place ∷ [])
  edit = edit_then taking.grows.edit entry_edit

  unused_away : (m : ℕ) → Away entries uir_type m
  unused_away m = unmarked-away entries uir_type m (index_unmarked kind own.vdr nodes (field 12 (length filled)))

  pub linked_index : NewIndex b linked kind own index' rs (shape filled).unused (r_max_rec_field kind ++ space_fields) space nodes (field 12 (length filled)) (new.place ∷ [])
  linked_index =
      let head = let c = entries_clear kind own.vdr nodes (length filled) in gdr_field taking.grows.sound entry_edit c.0 gdr_uir_head c.2 (omega arith) in
      record {
        edit = edit;
        tests = leaf_tests kind own.vdr s.unused (new.place ∷ []) nodes need (length filled);
        unspaced = refl;
        own_nodes = λ m j k. inl k;
        typed_now = λ m j. elim j [ inl e ↦ subst (λ (y : ℕ). (is_record_type (type_at linked y) ≡ true) × (fixed_size (type_at linked y) ≤ size_at linked y)) (sym e) (rw (t.heads.types new.place new_in, t.heads.sizes new.place new_in) (h'.typed new.place new_in, h'.fixed new.place new_in)) | inr none ↦ absurd none ];
        unused_chain = subst (λ (g : ℕ). IsChain linked rs uir_type (number linked g gdr_uir_head) (shape filled).unused) (ap (λ (y : Shape). y.gdr) taking.grows.same_shape)
            (chain_stays entry_edit uir_type _ _ (shape filled).unused h'.unused_chain head (λ m j. away-avoids entries uir_type m 0 20 (unused_away m)));
        index_now = of_entry.index_now good at old new one lies x i x_in used says way old_filled new_filled new_in set;
      }

  abbrev pub ie : IndexEdit b linked kind own index' rs (shape filled).unused (space ++ entries) (new.place ∷ [])
  ie = index_edit good at linked_index

  abbrev pub s' : Shape
  s' = with_shapes s kind rs (shape filled).unused (before ++ with_index own index' ∷ after)

  pub linked_shape : shape linked ≡ s'
  linked_shape = same_shape good at (own_edit good at linked_index)

  -- ---- its nodes and blocks

  pub linked_but : (m : ℕ) → In m nodes → NodeBut b linked x i m
  linked_but = of_entry.nodes_but good at old new one lies x i x_in used says way old_filled new_filled new_in set

  pub set_but : (m : ℕ) → In m nodes → NodeBut filled linked x i m
  set_but = of_entry.set_but good at old new one lies x i x_in used says way old_filled new_filled new_in set

  linked_spares : (m : ℕ) → In m nodes → Spares b linked m
  linked_spares = of_entry.spares good at old new one lies x i x_in used says way old_filled new_filled new_in set

  -- a leaf is the new one, or one of the others
  pub leaf_cases : (l : Leaf) → IsOneOf (leaves_of index') l → (l ≡ new) ⊎ (IsOneOf leaves l × (l.place ≢ old.place))
  leaf_cases = of_entry.leaf_cases good at old new one lies x i x_in used says way old_filled new_filled new_in set

  pub new_one : IsOneOf (leaves_of index') new
  new_one = of_entry.new_one good at old new one lies x i x_in used says way old_filled new_filled new_in set

  pub order_now : InOrder 0 record_number_limit index'
  order_now = of_entry.order_now good at old new one lies x i x_in used says way old_filled new_filled new_in set

  pub new_no_node : new.place ≢ x
  new_no_node e = unlike (sound good at) block.fills x (of_own.own_node good at x x_in).0 (λ u. apart vxr_type uir_type refl (sym (of_own.own_node good at x x_in).1 ∙ u)) (sym e)

  -- a node is not what was taken
  pub node_fresh : (m : ℕ) → In m nodes → m ≡ new.place → ⊥
  node_fresh m j e = unlike (sound good at) block.fills m (of_own.own_node good at m j).0 (λ u. apart vxr_type uir_type refl (sym (of_own.own_node good at m j).1 ∙ u)) e

  -- behind its entries it stays
  pub spare_stays : (m : ℕ) → In m nodes → Same filled linked (m + (28 + 16 * room_at filled m)) (m + size_at filled m)
  spare_stays = of_entry.spare_stays good at old new one lies x i x_in used says way old_filled new_filled new_in set

  -- and the old block whole
  pub old_kept : Kept b linked old.place
  old_kept = block_kept good at linked_index old.place (in_places good at old one)

  -- ---- how often the owners have a record

  pub used_by : (records list : List ℕ) (m : ℕ) → used_times (with_shapes s kind records list (before ++ with_index own index' ∷ after)) m + times m (old.place ∷ []) ≡ used_times s m + times m (new.place ∷ [])
  used_by = of_entry.used_by good at old new one lies x i x_in used says way old_filled new_filled new_in set

  used_now : (m : ℕ) → used_times s' m + times m (old.place ∷ []) ≡ used_times s m + times m (new.place ∷ [])
  used_now = used_by rs (shape filled).unused

  pub used_most : (m : ℕ) → used_times s m ≤ 1
  used_most m = omega (arith, (sound good at).not_twice m, owned-times b s m)

  pub fresh_none : used_times s new.place ≡ 0
  fresh_none = fresh_unowned (sound good at) new.place (λ j. taking.fresh_all new.place (inl refl) j)

  held : (m : ℕ) → In m (new.place ∷ []) → IsHeld linked s' m
  held m (inl e) = subst (IsHeld linked s') (sym e) (inl ((λ u. (used_block new.packed (type_at linked new.place) new_typed).0 u), omega (arith, used_now new.place, fresh_none, times-none new.place (old.place ∷ []) (λ j. elim j [ inl q ↦ apart_places (sym q) | inr none ↦ none ]), times-once new.place (new.place ∷ []) ((λ k. k), tt) (inl refl))))
  held m (inr none) = absurd none

  module _ (plain : List ℕ) (rle : is_compressed b own.vdr ≡ true) (as_long : length plain ≡ (new.last + 1 - new.first) * record_bytes b own.vdr) (stored : StoredAs plain new.packed bytes) (short : length bytes ≤ image_limit) where
    -- in any image that has this index and keeps the record, the new leaf has its rules
    pub new_leaf : {now : List ℕ} {rs' list : List ℕ} {marks : List Mark} {reborn : List ℕ} → IndexEdit b now kind own index' rs' list marks reborn → Kept filled now new.place → In new.place rs' → length filled ≤ length now → NewBlock now new.place new.packed bytes × (BlockStands now rs' new bytes × BlockIs now rs' own.vdr new plain)
    new_leaf {now = now} {rs' = rs'} y k there longer =
        let n = block_now bytes short new.packed block k size_filled longer in
        let size = size_kept filled now new.place k.same (omega (arith, k.long)) in
        let stands : BlockStands now rs' new bytes = record { there = there; typed = type_kept filled now new.place k.same k.long ∙ new_filled; room = omega (arith, size, size_filled, body_long new.packed bytes); holds = n.holds; short = short } in
        let file = of_index.file good at y in
        let same = of_index.stays good at y in
        let many : plain_size now own.vdr new ≡ length plain = plain_alike file (stays_alike file same) new ∙ size_is good at old one new lies ∙ sym as_long in
        (n, (stands, block_is now rs' own.vdr new.first new.last new.place plain bytes (packed_stays file same ∙ rle) new.packed many stands stored))

    abbrev linked_new : NewBlock linked new.place new.packed bytes × (BlockStands linked rs new bytes × BlockIs linked rs own.vdr new plain)
    linked_new = new_leaf ie (t.others new.place new_in new_no_node) new_in (omega (arith, set.as_long))

    leaf_linked : (l : Leaf) → IsOneOf (leaves_of index') l → LeafFits linked rs own.vdr l × Hold (leaf_rows linked rs own.vdr l)
    leaf_linked l j = elim (leaf_cases l j) [
      | inl q ↦ subst (λ (y : Leaf). LeafFits linked rs own.vdr y × Hold (leaf_rows linked rs own.vdr y)) (sym q) (linked_new.1.1.fits, linked_new.1.1.rules)
      | inr k ↦ leaf_stays good at ie l k.0 (block_kept good at linked_index l.place (place_in leaves l k.0))
    ]

    pub linked_sound : IsSound linked (shape linked)
    linked_sound = subst (IsSound linked) (sym linked_shape) (sound_if (sound good at) (splices good at (own_edit good at linked_index)) (all_fit good at ie (nodes_stay old.first new own.index) linked_spares leaf_linked, tt)
        (not_twice_kept b linked s s' _ (new.place ∷ []) (sound good at) edit (λ m out. omega (arith, used_now m, times-none m (new.place ∷ []) out)) held))

    pub old_free : AreFree linked (old.place ∷ [])
    old_free = record {
      stand = λ m j. elim j [ inl e ↦ subst (λ (y : ℕ × Shape). In y.0 y.1.records) (λ k. (sym e k, sym linked_shape k)) old_in | inr none ↦ absurd none ];
      unowned = λ m j. elim j [
        | inl e ↦ subst (λ (y : ℕ × Shape). times y.0 (owned_records linked y.1) ≡ 0) (λ k. (sym e k, sym linked_shape k)) (none_in_use linked s' entry_edit.tiled_now old.place (λ u. (used_block old.packed (type_at linked old.place) old_typed).0 u) (omega (arith, used_now old.place, used_most old.place, times-once old.place (old.place ∷ []) ((λ k. k), tt) (inl refl), times-none old.place (new.place ∷ []) (λ k. elim k [ inl q ↦ apart_places q | inr none ↦ none ]))))
        | inr none ↦ absurd none
      ];
      once = ((λ k. k), tt);
    }
