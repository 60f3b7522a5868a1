-- The block of a leaf got a new record, and the old one was freed: the image is good, and goes on with the index in which the leaf has another place.
use Rattle.cdf_blocks.proofs.Common.{Each, In, IsOneOf, Leaf, List, Nodes, SaysEntry, [], ap, arith, false, inl, inr, length, refl, room_at, subst, sym, times, times-none, times-once, true, used_count, vxr_type, ℕ, ◌*◌, ◌++◌, ◌+◌, ◌-◌, ◌<◌, ◌∙◌, ◌∷◌, ◌≡◌, ◌≢◌, ◌≤◌, ◌⊎◌}
unfoldable use Rattle.cdf_blocks.proofs.Common.{leaves_of, nodes_of, with_range}
use Rattle.cdf_edits.proofs.Common.{Act, ActsFollow, AllGiven, Avoids, Away, Each-split, Edit, Field, Gave, Good, HasVariable, Hold, IsIndex, IsSound, Kind, LeafFits, Mark, Only, OwnedOnce, Same, Shape, Took, VariableShape, avoided, cvvr_type, eof, field, freeing_marks, gdr_eof, gdr_type, good_by_its_shape, image_limit, index_rows, is_compressed, is_in, is_max_rec, leaf_rows, linkable-in, linkable-type, links_end, number, number_kept, r_max_rec, r_max_rec_field, record_bytes, shape, size_at, size_kept, space_fields, tile_lies, type_at, type_in, uir_type, unmarked, variable_records, variables, variables_chain, vdr_max_rec, vdr_vxr_head, vvr_type, wholes}
use Rattle.cdf_edits.proofs.Edits.Common.{Frees, IsSorted, Kept, StandsAmong, acts_still_by, all_freed, all_gave, apart, edit_then, edit_under, freed_edit, freed_long, freed_records, freed_shape, freeing_behind, gave-same, gdr_field, gdr_place, gdr_still, may_free, of_kind, owned_once_if, sizes_before, sizes_by_tiles, sound, sound_now, used_times, with_shapes}
use Rattle.cdf_edits.proofs.Edits.IndexEdited.{IndexEdit}
use Rattle.cdf_edits.proofs.Edits.IndexEdited as of_index
use Rattle.cdf_edits.proofs.Edits.OwnEdited as of_own_edit
use Rattle.cdf_edits.proofs.Edits.PlainLeaves.{own_rules}
use Rattle.cdf_edits.proofs.Edits.VariableCopied.{block_behind}
use Rattle.cdf_edits.specs.Space.Placing.{Placed}
use Rattle.cdf_index.proofs.Common.{EntrySet}
use Rattle.cdf_index.proofs.NewIndex.{own_edit}
use Rattle.cdf_index.specs.Replacing.{with_index}
use Rattle.cdf_leaves.proofs.Own as of_own
use Rattle.cdf_leaves.proofs.Spares.{Spares}
use Rattle.cdf_blocks.specs.Blocks.{LiesIn, StoredAs, block_body}
use Rattle.cdf_blocks.proofs.BlockBytes.{BlockIs, BlockStands}
use Rattle.cdf_blocks.proofs.BlockOf.{block_in}
use Rattle.cdf_blocks.proofs.KeptRules.{all_ruled, leaf_stays}
use Rattle.cdf_blocks.proofs.NewBlock.{NewBlock}
use Rattle.cdf_blocks.proofs.MovedLinked as of_linked
use Rattle.cdf_edits.proofs.Common.{AreTiles, Stays, is_taken, plain_size, type_kept}
use Rattle.cdf_index.proofs.OneNode.{same_node}
use Rattle.cdf_edits.proofs.Frame.VdrAlike.{plain_alike}
use Rattle.cdf_edits.proofs.Frame.VdrStays.{packed_stays, stays_alike}
use Rattle.cdf_blocks.proofs.BlockOf.{size_is}
use Rattle.cdf_blocks.proofs.EntryNamed.{NodeBut, but_same, but_then, entries_clear, no_node_type, spares_but}
use Rattle.cdf_edits.proofs.Edits.Common.{Within-append, gdr_in, gdr_typed, head_size, keeps_away, keeps_fields, keeps_within, long, others_kept, typed, unmarked-away}
use Rattle.cdf_edits.proofs.Edits.LeafPieces.{place_in}
use Rattle.cdf_edits.proofs.Edits.MarkLemmas.{away-avoids, away-within}
use Rattle.cdf_edits.proofs.Edits.RecordGrown.{kept_then}
use Rattle.cdf_edits.proofs.Edits.StandsAmong.{through}
use Rattle.cdf_edits.proofs.Edits.TakenAll.{listed_free, unlisted_away}
use Rattle.cdf_index.proofs.NewIndex.{block_kept as linked_block}
use Rattle.cdf_index.proofs.TreeTouched.{Touched}
use Rattle.cdf_leaves.proofs.Spares.{fits_still}
use Rattle.cdf_puts.proofs.GoesThen.{goes_by, links}
use Rattle.cdf_puts.specs.Going.{GoesOn}
use Rattle.cdf_blocks.proofs.BlockOf.{block_typed, no_vdr}
use Rattle.cdf_blocks.proofs.PlacedLeaf.{nodes_stay}
use Rattle.cdf_edits.proofs.Common.{count_of, cpr_type, head_of, keeps_file, within}
use Rattle.cdf_edits.proofs.Edits.Common.{Avoids-append, Away-append, all_variable_records, keeps_all_attributes, keeps_kind, other_kind}
use Rattle.cdf_edits.proofs.Edits.TakenAll.{TakenAll, taking_all}
use Rattle.cdf_index.proofs.NewIndex.{index_marks}
use Rattle.cdf_blocks.proofs.BlockOf.{in_places}

pub no_block_type : (kind : Kind) → (type_in (variables_chain kind) ≢ vvr_type) × (type_in (variables_chain kind) ≢ cvvr_type)
no_block_type kind = (λ e. grind arith, λ e. grind arith)

abbrev pub types : List ℕ
types = vvr_type ∷ cvvr_type ∷ []

-- all that was written, taken and freed
abbrev pub all_marks : Kind → ℕ → List ℕ → List ℕ → List ℕ → ℕ → ℕ → ℕ → ℕ → List Mark
all_marks kind v unused places nodes need most old limit = (taking_all unused places need ++ index_marks kind v nodes (field 12 most)) ++ wholes types (old ∷ []) limit

pub record AllTests (kind : Kind) (v : ℕ) (unused places nodes : List ℕ) (need most old limit : ℕ) : Type 0 where
  pub file_clear : keeps_file (all_marks kind v unused places nodes need most old limit) ≡ true
  pub attributes_clear : keeps_all_attributes (all_marks kind v unused places nodes need most old limit) ≡ true
  pub other_clear : keeps_kind (all_marks kind v unused places nodes need most old limit) (other_kind kind) ≡ true
  pub cpr_clear : unmarked (all_marks kind v unused places nodes need most old limit) cpr_type ≡ true
  pub head_clear : avoided (all_marks kind v unused places nodes need most old limit) gdr_type (head_of (variables_chain kind)).place ((head_of (variables_chain kind)).place + (head_of (variables_chain kind)).width) ≡ true
  pub count_clear : avoided (all_marks kind v unused places nodes need most old limit) gdr_type (count_of (variables_chain kind)).place ((count_of (variables_chain kind)).place + (count_of (variables_chain kind)).width) ≡ true
  pub start_clear : avoided (all_marks kind v unused places nodes need most old limit) gdr_type 0 12 ≡ true
  pub max_clear : avoided (all_marks kind v unused places nodes need most old limit) gdr_type 52 56 ≡ true
  pub inside : within (all_marks kind v unused places nodes need most old limit) gdr_type space_fields ≡ true
  pub inside_more : within (all_marks kind v unused places nodes need most old limit) gdr_type (r_max_rec_field kind ++ space_fields) ≡ true
  pub entries_clear : unmarked (index_marks kind v nodes (field 12 most)) uir_type ≡ true

all_tests : (kind : Kind) (v : ℕ) (unused places nodes : List ℕ) (need most old limit : ℕ) → AllTests kind v unused places nodes need most old limit
all_tests kind v unused places nodes need most old limit = grind arith

module _ {b filled linked now : List ℕ} {kind : Kind} {before : List VariableShape} {own : VariableShape} {after : List VariableShape} (good : Good b) (at : StandsAmong b kind before own after) (old new : Leaf) (one : IsOneOf (leaves_of own.index) old) (lies : LiesIn old new.first new.last) (bytes : List ℕ) (x i : ℕ) (x_in : In x (nodes_of own.index)) (used : i < used_count b x) (says : SaysEntry b x i old.first old.last old.place)
    (block : Placed b filled (block_body new.packed bytes) new.place) (set : EntrySet filled linked x i new.first new.last new.place) (plain : List ℕ) (rle : is_compressed b own.vdr ≡ true) (as_long : length plain ≡ (new.last + 1 - new.first) * record_bytes b own.vdr) (stored : StoredAs plain new.packed bytes) (short : length bytes ≤ image_limit) (given : AllGiven linked now (old.place ∷ [])) where
  abbrev s : Shape
  s = shape b

  abbrev pub index' : Nodes
  index' = with_range old.first new own.index

  abbrev pub mine : VariableShape
  mine = with_index own index'

  abbrev nodes : List ℕ
  nodes = nodes_of own.index

  abbrev rs : List ℕ
  rs = (shape filled).records

  abbrev pub need : ℕ
  need = 8 + length (block_body new.packed bytes)

  abbrev taking : TakenAll b filled (Took new.place need ∷ []) (new.place ∷ []) need
  taking = of_linked.taking good at old new one lies bytes x i x_in used says block set

  abbrev entries : List Mark
  entries = index_marks kind own.vdr nodes (field 12 (length filled))

  abbrev entry_edit : Edit filled linked rs rs entries []
  entry_edit = of_linked.entry_edit good at old new one lies bytes x i x_in used says block set

  abbrev marks : List Mark
  marks = all_marks kind own.vdr s.unused (new.place ∷ []) nodes need (length filled) old.place (length linked)

  pub tests : AllTests kind own.vdr s.unused (new.place ∷ []) nodes need (length filled) old.place (length linked)
  tests = all_tests kind own.vdr s.unused (new.place ∷ []) nodes need (length filled) old.place (length linked)

  sound_linked : IsSound linked (shape linked)
  sound_linked = of_linked.linked_sound good at old new one lies bytes x i x_in used says block set plain rle as_long stored short

  linked_shape : shape linked ≡ with_shapes s kind rs (shape filled).unused (before ++ mine ∷ after)
  linked_shape = of_linked.linked_shape good at old new one lies bytes x i x_in used says block set

  old_type : is_in (type_at filled old.place) types ≡ true
  old_type = (of_linked.used_block old.packed (type_at filled old.place) (of_linked.old_filled good at old new one lies bytes x i x_in used says block set)).2

  pub frees : Frees filled linked now entries types (old.place ∷ [])
  frees = record {
    sound = taking.grows.sound;
    edit = entry_edit;
    long = set.as_long;
    mid_sound = sound_linked;
    records = ap (λ (y : Shape). y.records) linked_shape;
    unused = ap (λ (y : Shape). y.unused) linked_shape;
    free = of_linked.old_free good at old new one lies bytes x i x_in used says block set plain rle as_long stored short;
    typed = λ m j. elim j [ inl e ↦ subst (λ (y : ℕ). is_in (type_at filled y) types ≡ true) (sym e) old_type | inr none ↦ absurd none ];
    no_gdr = refl;
    given = given;
  }

  pub records_now : (shape now).records ≡ rs
  records_now = freed_records frees

  pub long_now : length now ≡ length filled
  long_now = freed_long frees

  onward : Edit filled now rs (shape now).records (entries ++ freeing_marks types (shape filled).unused (old.place ∷ []) (length linked)) (old.place ∷ [])
  onward = subst (λ (ns : List ℕ). Edit filled now rs ns (entries ++ freeing_marks types (shape filled).unused (old.place ∷ []) (length linked)) (old.place ∷ [])) (sym records_now) (freed_edit frees)

  pub edit : Edit b now s.records (shape now).records marks (new.place ∷ old.place ∷ [])
  edit = edit_under (edit_then taking.grows.edit onward) marks (λ m type lo hi j is a.
      (a.0, (a.1.0, (a.1.1.0, (a.1.1.1.0, (a.1.1.1.1.0, (a.1.1.1.1.1.0, (a.1.1.1.1.1.1.0, (a.1.0, ((λ same lies. a.1.1.1.0 same (taking.before m j lies)), a.1.1.1.1.1.1.1))))))))))

  -- ---- the variable

  own_now : (P : VariableShape → Type 0) → Each P (variables (shape now)) → P mine
  own_now P all =
      let among = of_own_edit.among_now good at (own_edit good at (of_linked.linked_index good at old new one lies bytes x i x_in used says block set)) in
      (Each-split P before (mine ∷ after) (subst (Each P) among.was (of_kind P kind (shape linked) (subst (λ (y : Shape). Each P (variables y)) (freed_shape frees refl) all)))).1.0

  stands : IsIndex now (shape now).records (number now own.vdr vdr_vxr_head) index'
  stands = (own_now (HasVariable now (shape now).records) (sound_now frees).has_shape.have_variables).indexed

  pub reborn_in : (m : ℕ) → In m (new.place ∷ old.place ∷ []) → In m (shape now).records
  reborn_in m (inl e) = subst (λ (y : ℕ × List ℕ). In y.0 y.1) (λ k. (sym e k, sym records_now k)) (of_linked.new_in good at old new one lies bytes x i x_in used says block set)
  reborn_in m (inr (inl e)) = subst (λ (y : ℕ × List ℕ). In y.0 y.1) (λ k. (sym e k, sym records_now k)) (of_linked.old_in good at old new one lies bytes x i x_in used says block set)
  reborn_in m (inr (inr none)) = absurd none

  -- a record of a variable that is not of this one, or its descriptor
  beside : (m : ℕ) → In m (all_variable_records s) → (In m (variable_records own) → ⊥) → Away marks (type_at b m) m
  beside m j out =
      Away-append (taking_all s.unused (new.place ∷ []) need ++ entries) (wholes types (old.place ∷ []) (length linked)) (type_at b m) m
      ((of_linked.ie good at old new one lies bytes x i x_in used says block set).beside m j out)
      (let gone : In m (old.place ∷ []) → ⊥ = λ k. elim k [ inl e ↦ out (subst (λ (z : ℕ). In z (variable_records own)) (sym e) (inr (block_behind own old.place (in_places good at old one)))) | inr none ↦ none ] in ((λ same lies. gone lies), ((λ same lies. gone lies), tt)))

  avoids : (m lo hi : ℕ) → (hi ≤ 24) ⊎ (44 ≤ lo) → Avoids marks (type_in (variables_chain kind)) m lo hi
  avoids m lo hi side =
      Avoids-append (taking_all s.unused (new.place ∷ []) need ++ entries) (wholes types (old.place ∷ []) (length linked)) (type_in (variables_chain kind)) m lo hi
      ((of_linked.ie good at old new one lies bytes x i x_in used says block set).avoids m lo hi side) (let far = no_block_type kind in ((λ same lies. absurd (far.0 same)), ((λ same lies. absurd (far.1 same)), tt)))

  pub whole : IndexEdit b now kind own index' (shape now).records (shape now).unused marks (new.place ∷ old.place ∷ [])
  whole =
      let gdr = sym (sound_now frees).has_shape.gdr_is ∙ gdr_place (sound good at) edit tests.file_clear in
      record {
        edit = edit;
        file_clear = tests.file_clear;
        attributes_clear = tests.attributes_clear;
        other_clear = tests.other_clear;
        cpr_clear = tests.cpr_clear;
        head_clear = tests.head_clear;
        count_clear = tests.count_clear;
        beside = beside;
        avoids = avoids;
        typed = λ m j. ((sound_now frees).has_shape.typed m (reborn_in m j), (sound_now frees).has_shape.fixed m (reborn_in m j));
        unused_chain = rw gdr at (sound_now frees).has_shape.unused_chain;
        index_now = stands;
      }

  -- ---- what stays

  abbrev t : Touched filled linked rs x
  t = of_linked.t good at old new one lies bytes x i x_in used says block set

  abbrev ie : IndexEdit b linked kind own index' rs (shape filled).unused (taking_all s.unused (new.place ∷ []) need ++ entries) (new.place ∷ [])
  ie = of_linked.ie good at old new one lies bytes x i x_in used says block set

  linked_kept : (m : ℕ) → In m rs → type_at linked m ≢ gdr_type → type_at linked m ≢ uir_type → m ≢ old.place → Kept linked now m
  linked_kept m j g u ne = others_kept frees m j g u (λ k. elim k [ inl e ↦ ne e | inr none ↦ none ])

  vdr_type_apart : (type_in (variables_chain kind) ≢ gdr_type) × (type_in (variables_chain kind) ≢ uir_type)
  vdr_type_apart = (λ e. grind arith, λ e. grind arith)

  pub vdr_kept : Kept b now own.vdr
  vdr_kept =
      let late = of_linked.late good at old new one lies bytes x i x_in used says block set in
      let type = of_index.vdr_type good at ie ∙ typed good at in
      kept_then b filled now own.vdr (of_own.vdr_kept good at late) (kept_then filled linked now own.vdr (of_linked.vdr_linked good at old new one lies bytes x i x_in used says block set) (linked_kept own.vdr (of_own.vdr_in good at late) (λ e. vdr_type_apart.0 (sym type ∙ e)) (λ e. vdr_type_apart.1 (sym type ∙ e)) (λ e. no_vdr good at old one (sym e))))

  pub vdr_field : (f : Field) → f.place + f.width ≤ 340 → number now own.vdr f ≡ number b own.vdr f
  vdr_field f le = number_kept b now own.vdr vdr_kept.same f (through (f.place + f.width) 340 (size_at b own.vdr) le (long good at))

  node_linked : (m : ℕ) → In m nodes → Kept linked now m
  node_linked m j =
      let n = of_linked.node_filled good at old new one lies bytes x i x_in used says block set m j in
      let type = t.heads.types m n.0 ∙ n.1 in
      linked_kept m n.0 (λ e. apart vxr_type gdr_type refl (sym type ∙ e)) (λ e. apart vxr_type uir_type refl (sym type ∙ e)) (λ e. node_no_block (rw e at type))
    where
      node_no_block : type_at linked old.place ≡ vxr_type → ⊥
      node_no_block e = no_node_type old.packed (sym (of_linked.old_typed good at old new one lies bytes x i x_in used says block set) ∙ e)

  -- a node that does not name the leaf stays
  pub node_else : (m : ℕ) → In m nodes → m ≢ x → Kept b now m
  node_else m j ne =
      let late = of_linked.late good at old new one lies bytes x i x_in used says block set in
      let there = (of_linked.node_filled good at old new one lies bytes x i x_in used says block set m j).0 in
      kept_then b filled now m (of_own.node_kept good at late m j) (kept_then filled linked now m (t.others m there ne) (node_linked m j))

  -- but for the entry of the leaf each node is as it was
  pub nodes_but : (m : ℕ) → In m nodes → NodeBut b now x i m
  nodes_but m j =
      let first = of_linked.linked_but good at old new one lies bytes x i x_in used says block set m j in
      but_then first (but_same (same_node linked now m (node_linked m j) (fits_still b linked m (spares_but used first) (of_own.node_fits good at m j))))

  pub spares : (m : ℕ) → In m nodes → Spares b now m
  spares m j = spares_but used (nodes_but m j)

  kept_new : Kept filled now new.place
  kept_new =
      let type = of_linked.used_block new.packed (type_at linked new.place) (of_linked.new_typed good at old new one lies bytes x i x_in used says block set) in
      let there = of_linked.new_in good at old new one lies bytes x i x_in used says block set in
      kept_then filled linked now new.place (t.others new.place there (of_linked.new_no_node good at old new one lies bytes x i x_in used says block set)) (linked_kept new.place there type.1 type.0 (λ e. of_linked.apart_places good at old new one lies bytes x i x_in used says block set (sym e)))

  pub block_kept : (l : Leaf) → IsOneOf (leaves_of own.index) l → l.place ≢ old.place → Kept b now l.place
  block_kept l j ne =
      let k = linked_block good at (of_linked.linked_index good at old new one lies bytes x i x_in used says block set) l.place (place_in (leaves_of own.index) l j) in
      let type = of_linked.used_block l.packed (type_at linked l.place) (type_kept b linked l.place k.same k.long ∙ block_typed good at l j) in
      kept_then b linked now l.place k (linked_kept l.place (taking.grows.edit.sub l.place (block_in good at l j)) type.1 type.0 ne)

  -- ---- its rules

  pub new_now : NewBlock now new.place new.packed bytes × (BlockStands now (shape now).records new bytes × BlockIs now (shape now).records own.vdr new plain)
  new_now = of_linked.new_leaf good at old new one lies bytes x i x_in used says block set plain rle as_long stored short whole kept_new (reborn_in new.place (inl refl)) (omega (arith, long_now))

  leaf_now : (l : Leaf) → IsOneOf (leaves_of index') l → LeafFits now (shape now).records own.vdr l × Hold (leaf_rows now (shape now).records own.vdr l)
  leaf_now l j = elim (of_linked.leaf_cases good at old new one lies bytes x i x_in used says block set l j) [
    | inl q ↦ subst (λ (y : Leaf). LeafFits now (shape now).records own.vdr y × Hold (leaf_rows now (shape now).records own.vdr y)) (sym q) (new_now.1.1.fits, new_now.1.1.rules)
    | inr k ↦ leaf_stays good at whole l k.0 (block_kept l k.0 k.1)
  ]

  rows : Hold (index_rows now (shape now).records own.vdr index')
  rows = all_ruled good at whole (nodes_stay old.first new own.index) spares leaf_now (of_linked.order_now good at old new one lies bytes x i x_in used says block set)

  -- ---- the owners

  abbrev late_shape : Shape
  late_shape = with_shapes s kind (shape now).records (shape now).unused (before ++ mine ∷ after)

  used_late : (m : ℕ) → used_times late_shape m + times m (old.place ∷ []) ≡ used_times s m + times m (new.place ∷ [])
  used_late = of_linked.used_by good at old new one lies bytes x i x_in used says block set (shape now).records (shape now).unused

  no_old : times new.place (old.place ∷ []) ≡ 0
  no_old = times-none new.place (old.place ∷ []) (λ j. elim j [ inl q ↦ of_linked.apart_places good at old new one lies bytes x i x_in used says block set (sym q) | inr none ↦ none ])

  no_new : times old.place (new.place ∷ []) ≡ 0
  no_new = times-none old.place (new.place ∷ []) (λ j. elim j [ inl q ↦ of_linked.apart_places good at old new one lies bytes x i x_in used says block set q | inr none ↦ none ])

  new_used : type_at now new.place ≢ uir_type
  new_used u = (of_linked.used_block new.packed (type_at now new.place) new_now.1.0.typed).0 u

  sorted : (m : ℕ) → In m (new.place ∷ old.place ∷ []) → IsSorted now late_shape m
  sorted m (inl e) = subst (IsSorted now late_shape) (sym e) (inl (new_used, omega (arith, used_late new.place, no_old, of_linked.fresh_none good at old new one lies bytes x i x_in used says block set, times-once new.place (new.place ∷ []) ((λ k. k), tt) (inl refl))))
  sorted m (inr (inl e)) = subst (IsSorted now late_shape) (sym e) (inr (all_freed frees old.place (inl refl), omega (arith, used_late old.place, no_new, of_linked.used_most good at old new one lies bytes x i x_in used says block set old.place, times-once old.place (old.place ∷ []) ((λ k. k), tt) (inl refl))))
  sorted m (inr (inr none)) = absurd none

  owned_now : OwnedOnce now late_shape
  owned_now = owned_once_if b now s late_shape marks (new.place ∷ old.place ∷ []) (sound good at) (good_by_its_shape b good).owned_once edit
      (λ m out. omega (arith, used_late m, times-none m (old.place ∷ []) (λ j. out (inr j)), times-none m (new.place ∷ []) (λ j. elim j [ inl e ↦ out (inl e) | inr none ↦ none ]))) sorted

  -- ---- a good image stays good

  end_now : eof now s.gdr ≡ length now
  end_now = let c = entries_clear kind own.vdr nodes (length filled) in subst (λ (g : ℕ). eof now g ≡ length now) (ap (λ (y : Shape). y.gdr) taking.grows.same_shape) (gdr_still frees gdr_eof (omega arith) ∙ gdr_field taking.grows.sound entry_edit c.0 gdr_eof c.1 (omega arith) ∙ taking.grows.end_is ∙ sym long_now)

  pub good_now : length now ≤ image_limit → Good now
  good_now small = of_index.good_now good at whole rows (ap is_max_rec (vdr_field vdr_max_rec (omega arith)) ∙ (own_rules good at).0.1.1.1.1.1.1.1.0) owned_now end_now small

  -- ---- the acts

  abbrev pub acts : List Act
  acts = Took new.place need ∷ Gave old.place (size_at b old.place) ∷ []

  pub old_size : size_at linked old.place ≡ size_at b old.place
  old_size = t.heads.sizes old.place (of_linked.old_in good at old new one lies bytes x i x_in used says block set) ∙ head_size b filled old.place (of_linked.old_head good at old new one lies bytes x i x_in used says block set)

  follow : ActsFollow b now acts
  follow = subst (λ (xs : List Act). ActsFollow b now (Took new.place need ∷ xs)) (gave-same b linked (old.place ∷ []) (λ m j. elim j [ inl e ↦ subst (λ (y : ℕ). size_at linked y ≡ size_at b y) (sym e) old_size | inr none ↦ absurd none ]))
      (all_gave b linked now (Took new.place need ∷ []) types (old.place ∷ []) (sound good at).has_shape (acts_still_by taking.grows.sound taking.follow entry_edit tests.entries_clear (ap (λ (y : Shape). y.records) linked_shape) (ap (λ (y : Shape). y.unused) linked_shape) set.as_long) sound_linked (may_free frees) given)

  -- ---- how it goes on

  entries_away : (m : ℕ) → Away entries uir_type m
  entries_away m = unmarked-away entries uir_type m tests.entries_clear

  wholes_away : (m : ℕ) → Away (wholes types (old.place ∷ []) (length linked)) uir_type m
  wholes_away m = ((λ same lies. apart uir_type vvr_type refl same), ((λ same lies. apart uir_type cvvr_type refl same), tt))

  listed : (m : ℕ) → In m s.unused → is_taken b acts m ≡ false → Stays b now m links
  listed m j free =
      let ok = (sound good at).has_shape.unused_chain.linkable m j in
      let inside = linkable-in b s.records uir_type m ok in
      let marked = listed_free taking m j (tile_lies b 8 (length b) s.records m (sound good at).has_shape.tiled inside).long free in
      keeps_within (sound good at) edit refl m uir_type links inside (linkable-type b s.records uir_type m ok)
      (Avoids-append (taking_all s.unused (new.place ∷ []) need ++ entries) (wholes types (old.place ∷ []) (length linked)) uir_type m 0 12 (Avoids-append (taking_all s.unused (new.place ∷ []) need) entries uir_type m 0 12 marked.0 (away-avoids entries uir_type m 0 12 (entries_away m))) (away-avoids (wholes types (old.place ∷ []) (length linked)) uir_type m 0 12 (wholes_away m)))
      (Within-append (taking_all s.unused (new.place ∷ []) need ++ entries) (wholes types (old.place ∷ []) (length linked)) uir_type m links (Within-append (taking_all s.unused (new.place ∷ []) need) entries uir_type m links marked.1 (away-within entries uir_type m links (entries_away m))) (away-within (wholes types (old.place ∷ []) (length linked)) uir_type m links (wholes_away m)))

  loose : (m : ℕ) → In m s.records → type_at b m ≡ uir_type → (In m s.unused → ⊥) → Stays b now m []
  loose m j is out = keeps_away (sound good at) edit refl m uir_type (Only []) j is
      (Away-append (taking_all s.unused (new.place ∷ []) need ++ entries) (wholes types (old.place ∷ []) (length linked)) uir_type m (Away-append (taking_all s.unused (new.place ∷ []) need) entries uir_type m (unlisted_away taking m j out) (entries_away m)) (wholes_away m))

  pub gdr_stays : Stays b now s.gdr space_fields
  gdr_stays = keeps_fields (sound good at) edit refl s.gdr gdr_type space_fields (gdr_in b s (sound good at).has_shape) (gdr_typed b s (sound good at).has_shape) tests.start_clear tests.inside

  pub goes_on : length now ≤ image_limit → GoesOn b now kind before own mine after acts
  goes_on small =
      goes_by good at whole (good_now small) follow (keeps_fields (sound good at) edit refl s.gdr gdr_type (r_max_rec_field kind ++ space_fields) (gdr_in b s (sound good at).has_shape) (gdr_typed b s (sound good at).has_shape) tests.start_clear tests.inside_more) listed loose

  pub r_max_rec_is : r_max_rec now ≡ r_max_rec b
  r_max_rec_is = of_own_edit.r_max_rec_kept good at (of_index.own_edit good at whole) tests.max_clear

  -- ---- what a command asks of it

  pub rle_now : is_compressed now own.vdr ≡ true
  rle_now = packed_stays (of_index.file good at whole) (of_index.stays good at whole) ∙ rle

  pub many_now : plain_size now own.vdr new ≡ length plain
  many_now = plain_alike (of_index.file good at whole) (stays_alike (of_index.file good at whole) (of_index.stays good at whole)) new ∙ size_is good at old one new lies ∙ sym as_long

  pub size_new : size_at now new.place ≡ need
  size_new = size_kept filled now new.place kept_new.same (omega (arith, kept_new.long)) ∙ of_linked.size_filled good at old new one lies bytes x i x_in used says block set

  pub old_size_now : size_at now old.place ≡ size_at b old.place
  old_size_now =
      sizes_by_tiles filled now 8 8 (length filled) rs refl taking.grows.sound.has_shape.tiled (subst (λ (n : ℕ). AreTiles now 8 n rs) long_now (freed_edit frees).tiled_now) old.place (of_linked.old_in good at old new one lies bytes x i x_in used says block set)
      ∙ head_size b filled old.place (of_linked.old_head good at old new one lies bytes x i x_in used says block set)

  -- of the old record nothing is written before it is freed
  pub old_behind : Same b now (old.place + links_end (size_at b old.place)) (old.place + size_at b old.place)
  old_behind =
      let k = of_linked.old_kept good at old new one lies bytes x i x_in used says block set in
      let last : Same linked now (old.place + links_end (size_at b old.place)) (old.place + size_at b old.place) = subst (λ (n : ℕ). Same linked now (old.place + links_end n) (old.place + n)) (sym (sizes_before frees old.place (inl refl)) ∙ old_size) (freeing_behind frees old.place (inl refl)) in
      record { each = λ p low up. last.each p low up ∙ k.same.each p (omega (arith, low)) up }

  -- behind the entries of a node
  pub spare_same : (m : ℕ) → In m nodes → Same b now (m + (28 + 16 * room_at b m)) (m + size_at b m)
  spare_same m j =
      let n = of_own.node_same good at (of_linked.late good at old new one lies bytes x i x_in used says block set) m j in
      let k = of_own.node_kept good at (of_linked.late good at old new one lies bytes x i x_in used says block set) m j in
      let first = of_linked.spare_stays good at old new one lies bytes x i x_in used says block set m j in
      let last = node_linked m j in
      record { each = λ p low up. last.same.each p (omega (arith, low)) (omega (arith, up, (of_linked.set_but good at old new one lies bytes x i x_in used says block set m j).size_is, n.size_is)) ∙ first.each p (omega (arith, low, n.room_is)) (omega (arith, up, n.size_is)) ∙ k.same.each p (omega (arith, low)) up }
