-- What a cut leaves over is freed: a good image stays good, and has the index that is left.
use Rattle.cdf_cuts.proofs.Common.{Each, Each-split, In, Leaf, List, NodeFits, Nodes, Span, [], ap, arith, cvvr_type, false, inl, inr, leaves_of, length, linkable-in, nodes_of, number, places_of, plan_of, refl, freed_of, room_at, size_at, subst, sym, tile_lies, times, true, type_at, vxr_n_used_entries, vxr_type, ℕ, ◌++◌, ◌+◌, ◌∙◌, ◌∷◌, ◌≡◌, ◌≢◌, ◌≤◌, ◌⊎◌}
use Rattle.cdf_edits.proofs.Common.{ActsFollow, AllGiven, Avoids, Away, Edit, Good, HasVariable, Hold, IsIndex, Kind, LeafFits, Mark, OwnedOnce, Shape, VariableFits, VariableShape, avoided, count_of, cpr_type, eof, freeing_marks, gave, gdr_eof, gdr_type, good_by_its_shape, has_room, head_of, image_limit, index_rows, is_a, is_block, is_in, is_max_rec, keeps_file, leaf_rows, of_le, record_number_limit, shape, signed_limit, type_in, uir_type, unmarked, variable_types, variables, variables_chain, vdr_max_rec, vdr_vxr_head, vvr_type, word_kept, nodes_stand, gdr_uir_head, variable_records, IsChain, times-none, plain_size, vvr_records, Holds}
use Rattle.cdf_edits.proofs.Edits.Common.{Away-append, Avoids-append, Frees, IsSorted, StandsAmong, all_freed, freed_acts, freed_edit, freed_long, freed_records, freed_shape, gdr_field, gdr_place, gdr_still, keeps_all_attributes, keeps_kind, long, of_kind, other_kind, owned_once_if, sound, sound_now, through, tile, times-in, typed, used_times, variable_typed, with_shapes}
use Rattle.cdf_edits.proofs.Edits.IndexEdited.{IndexEdit}
use Rattle.cdf_edits.proofs.Edits.IndexEdited as of_index
use Rattle.cdf_edits.proofs.Edits.LeafPieces.{IsOneOf, of_each}
use Rattle.cdf_edits.proofs.Edits.OwnEdited.{among_now}
use Rattle.cdf_edits.proofs.Edits.PlainLeaves.{own_rules}
use Rattle.cdf_format.proofs.GoodSound.{good_eof}
unfoldable use Rattle.cdf_index.specs.Order.{InOrder}
use Rattle.cdf_index.proofs.LeafRules.{index_rules}
use Rattle.cdf_index.proofs.NewIndex.{index_marks}
use Rattle.cdf_index.proofs.PlainBlocks.{Named, leaves_named}
use Rattle.cdf_index.specs.Adding.{Counts}
use Rattle.cdf_index.specs.Replacing.{with_index}
use Rattle.cdf_cuts.specs.Linking.{IsLinked}
use Rattle.cdf_cuts.proofs.CutLeaves.{each_left}
use Rattle.cdf_edits.proofs.Edits.Common.{apart, behind_in, fits}
use Rattle.cdf_edits.proofs.Edits.LeafPieces.{place_in as leaf_place_in}
use Rattle.cdf_index.proofs.NewIndex.{block_kept}
use Rattle.cdf_index.proofs.OwnRecords.{block_type}
use Rattle.cdf_cuts.proofs.Common.{Kept}
use Rattle.cdf_cuts.proofs.KeptLeaf.{AsMany, IsPlainOrWhole, many_ruled}
use Rattle.cdf_cuts.proofs.Rewriting.{kept_then}
use Rattle.cdf_cuts.proofs.Common.{◌*◌}
use Rattle.cdf_cuts.proofs.CutLinked.{has_rest, freed_in, freed_own, freed_typed, heads, ie, left_free, linked_edit, linked_index, linked_shape, linked_sound, link_tests, used_most}
use Rattle.cdf_cuts.proofs.CutWords.{cut}
use Rattle.cdf_cuts.proofs.PlanPlaces.{plan_frees}
use Rattle.cdf_index.proofs.Common.{Each-in, either}
use Rattle.cdf_index.proofs.OneNode.{same_node}
use Rattle.cdf_index.proofs.OwnRecords.{parts_times}
use Rattle.cdf_edits.proofs.Edits.Common.{others_kept, spliced_times}
use Rattle.cdf_edits.proofs.Edits.VariableCopied.{block_behind, node_behind}
use Rattle.cdf_cuts.proofs.Common.{times-append}
use Rattle.cdf_index.proofs.Common.{linkable-type}

abbrev pub types : List ℕ
types = vxr_type ∷ vvr_type ∷ cvvr_type ∷ []

abbrev pub cut_marks : Kind → ℕ → List ℕ → ℕ → List ℕ → List ℕ → List Mark
cut_marks kind v nodes n unused freed = index_marks kind v nodes (record { place = 12; width = n }) ++ freeing_marks types unused freed n

pub record CutTests (kind : Kind) (v : ℕ) (nodes : List ℕ) (n : ℕ) (unused freed : List ℕ) : Type 0 where
  pub file_clear : keeps_file (cut_marks kind v nodes n unused freed) ≡ true
  pub attributes_clear : keeps_all_attributes (cut_marks kind v nodes n unused freed) ≡ true
  pub other_clear : keeps_kind (cut_marks kind v nodes n unused freed) (other_kind kind) ≡ true
  pub cpr_clear : unmarked (cut_marks kind v nodes n unused freed) cpr_type ≡ true
  pub head_clear : avoided (cut_marks kind v nodes n unused freed) gdr_type (head_of (variables_chain kind)).place ((head_of (variables_chain kind)).place + (head_of (variables_chain kind)).width) ≡ true
  pub count_clear : avoided (cut_marks kind v nodes n unused freed) gdr_type (count_of (variables_chain kind)).place ((count_of (variables_chain kind)).place + (count_of (variables_chain kind)).width) ≡ true

pub cut_tests : (kind : Kind) (v : ℕ) (nodes : List ℕ) (n : ℕ) (unused freed : List ℕ) → CutTests kind v nodes n unused freed
cut_tests kind v nodes n unused freed = grind arith

-- a record of a variable is not the GDR, and it is used
pub used_type : (t : ℕ) → is_in t variable_types ≡ true → (t ≢ gdr_type) × (t ≢ uir_type)
used_type t e = (λ q. (let r = rw q at e in absurd cc), λ q. (let r = rw q at e in absurd cc))

pub vdr_apart : (kind : Kind) → (type_in (variables_chain kind) ≢ gdr_type) × (type_in (variables_chain kind) ≢ uir_type) × (type_in (variables_chain kind) ≢ vxr_type) × (type_in (variables_chain kind) ≢ vvr_type) × (type_in (variables_chain kind) ≢ cvvr_type)
vdr_apart kind = (λ e. grind arith, λ e. grind arith, λ e. grind arith, λ e. grind arith, λ e. grind arith)

-- a block that is not packed holds its records
pub leaf_held : (now records : List ℕ) (vdr : ℕ) (l : Leaf) → is_a now records cvvr_type l.place ≡ false → Holds now l.place (vvr_records (plain_size now vdr l)) → Hold (leaf_rows now records vdr l)
leaf_held now records vdr l none h = rw none (elim (either (is_a now records vvr_type l.place)) [ inl e ↦ rw e (of_le _ _ h, tt) | inr e ↦ rw e tt ])

module _ {b linked : List ℕ} {kind : Kind} {before : List VariableShape} {own : VariableShape} {after : List VariableShape} {span : Span} (good : Good b) (at : StandsAmong b kind before own after) (order : span.first ≤ span.last) (x : IsLinked b linked kind own span) where
  abbrev s : Shape
  s = shape b

  abbrev rest : Nodes
  rest = cut span own.index

  abbrev freed : List ℕ
  freed = freed_of (plan_of span 0 own.index)

  abbrev marks : List Mark
  marks = index_marks kind own.vdr (nodes_of own.index) (record { place = 12; width = length b })

  abbrev all_marks : List Mark
  all_marks = cut_marks kind own.vdr (nodes_of own.index) (length b) s.unused freed

  freed_away : (type m : ℕ) → type ≢ gdr_type → type ≢ uir_type → (In m freed → ⊥) → Away (freeing_marks types s.unused freed (length b)) type m
  freed_away type m g u out = ((λ e l. g e), ((λ e l. u e), ((λ e l. out l), ((λ e l. out l), ((λ e l. out l), tt)))))

  pub freed_avoids : (m lo hi : ℕ) → Avoids (freeing_marks types s.unused freed (length b)) (type_in (variables_chain kind)) m lo hi
  freed_avoids m lo hi = let far = vdr_apart kind in ((λ e l. absurd (far.0 e)), ((λ e l. absurd (far.1 e)), ((λ e l. absurd (far.2 e)), ((λ e l. absurd (far.3 e)), ((λ e l. absurd (far.4 e)), tt)))))

  own_record : (m : ℕ) → In m freed → In m (variable_records own)
  own_record m i = elim (freed_own good at x m i) [ inl j ↦ inr (node_behind own m j) | inr j ↦ inr (block_behind own m j) ]

  -- a record of the index is there once
  pub own_most : (m : ℕ) → times m (nodes_of own.index) + times m (places_of (leaves_of own.index)) ≤ 1
  own_most m =
      let all = spliced_times s kind s.records s.unused before (own ∷ []) [] after at.was m 0 (times m (variable_records own)) (omega (arith, times-append m (variable_records own) [])) in
      omega (arith, all, used_most good at x m, parts_times own m)

  -- what stays in the index is not freed
  pub stays_used : (m : ℕ) → In m (nodes_of rest) ⊎ In m (places_of (leaves_of rest)) → In m freed → ⊥
  stays_used m (inl i) j = absurd (omega (arith, own_most m, plan_frees m span 0 own.index, times-in m (nodes_of rest) i, times-in m freed j))
  stays_used m (inr i) j = absurd (omega (arith, own_most m, plan_frees m span 0 own.index, times-in m (places_of (leaves_of rest)) i, times-in m freed j))

  module _ (now : List ℕ) (given : AllGiven linked now freed) where
    pub frees : Frees b linked now marks types freed
    frees = record {
      sound = sound good at;
      edit = x.edit;
      long = x.long;
      mid_sound = linked_sound good at x order;
      records = ap (λ (y : Shape). y.records) (linked_shape good at x);
      unused = ap (λ (y : Shape). y.unused) (linked_shape good at x);
      free = left_free good at x;
      typed = freed_typed good at x;
      no_gdr = refl;
      given = given;
    }

    pub acts : ActsFollow b now (gave b freed)
    acts = freed_acts frees (link_tests kind own.vdr (nodes_of own.index) (length b)).unused_clear

    pub edit : Edit b now s.records s.records all_marks freed
    edit = subst (λ (n : ℕ). Edit b now s.records s.records (marks ++ freeing_marks types s.unused freed n) freed) x.long (freed_edit frees)

    own_now : (P : VariableShape → Type 0) → Each P (variables (shape now)) → P (with_index own rest)
    own_now P all =
        let among = among_now good at (linked_edit good at x) in
        (Each-split P before (with_index own rest ∷ after) (subst (Each P) among.was (of_kind P kind (shape linked) (subst (λ (y : Shape). Each P (variables y)) (freed_shape frees refl) all)))).1.0

    pub stands : IsIndex now s.records (number now own.vdr vdr_vxr_head) rest
    stands = subst (λ (rs : List ℕ). IsIndex now rs (number now own.vdr vdr_vxr_head) rest) (freed_records frees) (own_now (HasVariable now (shape now).records) (sound_now frees).has_shape.have_variables).indexed

    pub fits_then : VariableFits now s.records (with_index own rest)
    fits_then = subst (λ (rs : List ℕ). VariableFits now rs (with_index own rest)) (freed_records frees) (own_now (VariableFits now (shape now).records) (sound_now frees).variables_fit)

    -- ---- the edit of one variable

    pub whole : IndexEdit b now kind own rest s.records (shape now).unused all_marks freed
    whole =
        let tests = cut_tests kind own.vdr (nodes_of own.index) (length b) s.unused freed in
        let there : (m : ℕ) → In m freed → In m (shape now).records = λ m i. subst (In m) (sym (freed_records frees)) (freed_in good at x m i) in
        let gdr = sym (sound_now frees).has_shape.gdr_is ∙ gdr_place (sound good at) edit tests.file_clear in
        record {
          edit = edit;
          file_clear = tests.file_clear;
          attributes_clear = tests.attributes_clear;
          other_clear = tests.other_clear;
          cpr_clear = tests.cpr_clear;
          head_clear = tests.head_clear;
          count_clear = tests.count_clear;
          beside = λ m i out. (let t = used_type (type_at b m) (variable_typed b s (sound good at) m i) in Away-append marks (freeing_marks types s.unused freed (length b)) (type_at b m) m ((ie good at x).beside m i out) (freed_away (type_at b m) m t.0 t.1 (λ j. out (own_record m j))));
          avoids = λ m lo hi side. Avoids-append marks (freeing_marks types s.unused freed (length b)) (type_in (variables_chain kind)) m lo hi ((ie good at x).avoids m lo hi side) (freed_avoids m lo hi);
          typed = λ m i. ((sound_now frees).has_shape.typed m (there m i), (sound_now frees).has_shape.fixed m (there m i));
          unused_chain = subst (λ (rs : List ℕ). IsChain now rs uir_type (number now s.gdr gdr_uir_head) (shape now).unused) (freed_records frees) (rw gdr at (sound_now frees).has_shape.unused_chain);
          index_now = stands;
        }

    -- ---- a good image stays good

    abbrev late : Shape
    late = with_shapes s kind s.records (shape now).unused (before ++ with_index own rest ∷ after)

    used_late : (m : ℕ) → used_times late m + times m freed ≡ used_times s m
    used_late m = spliced_times s kind s.records (shape now).unused before (own ∷ []) (with_index own rest ∷ []) after at.was m 0 (times m freed)
        (omega (arith, times-append m (variable_records (with_index own rest)) [], times-append m (variable_records own) [], parts_times own m, parts_times (with_index own rest) m, plan_frees m span 0 own.index)) ∙ omega arith

    sorted : (m : ℕ) → In m freed → IsSorted now late m
    sorted m i = inr (all_freed frees m i, omega (arith, used_late m, used_most good at x m, times-in m freed i))

    owned_now : OwnedOnce now late
    owned_now = owned_once_if b now s late all_marks freed (sound good at) (good_by_its_shape b good).owned_once edit (λ m out. omega (arith, used_late m, times-none m freed out)) sorted

    pub max_kept : number now own.vdr vdr_max_rec ≡ number b own.vdr vdr_max_rec
    max_kept =
        let links = λ (lo hi : ℕ) (side : hi ≤ 28). Avoids-append marks (freeing_marks types s.unused freed (length b)) (type_in (variables_chain kind)) own.vdr lo hi ((λ same lies. inl side), ((λ same lies. absurd ((vdr_apart kind).2 same)), tt)) (freed_avoids own.vdr lo hi) in
        let same = edit.part own.vdr (type_in (variables_chain kind)) 24 28 (tile good at) (typed good at) (links 0 12 (omega arith)) (links 24 28 (omega arith)) (through 28 340 (size_at b own.vdr) (omega arith) (long good at)) in
        word_kept b now (own.vdr + 24) (own.vdr + 28) same (own.vdr + 24) 4 (omega arith) (omega arith)

    room_now : length b ≤ image_limit → (m : ℕ) → In m (nodes_of rest) → has_room now m ≡ true
    room_now short m i =
        let link = nodes_stand linked s.records 8 rest (has_rest good at x) m i in
        let there = linkable-in linked s.records vxr_type m link in
        let type = linkable-type linked s.records vxr_type m link in
        let k = others_kept frees m there (λ e. apart vxr_type gdr_type refl (sym type ∙ e)) (λ e. apart vxr_type uir_type refl (sym type ∙ e)) (stays_used m (inl i)) in
        let n = same_node linked now m k (Each-in (NodeFits linked) (nodes_of rest) x.fits m i) in
        let fit = (Each-in (NodeFits now) (nodes_of rest) fits_then.1 m i).0 in
        let was : number linked m vxr_n_used_entries ≤ room_at linked m = Each-in (Counts linked) (nodes_of rest) x.counts m i in
        let count : number now m vxr_n_used_entries ≤ room_at now m = omega (arith, was, n.count_is, n.room_is) in
        let high = (tile_lies now 8 (length now) s.records m edit.tiled_now there).high in
        rw (of_le (number now m vxr_n_used_entries) (room_at now m) count, of_le (room_at now m) signed_limit (omega (arith, fit, high, freed_long frees, short)), of_le (28 + 16 * room_at now m) (size_at now m) fit) refl

    -- ---- the blocks

    pub kept_used : (m type : ℕ) → In m s.records → type_at b m ≡ type → type ≢ gdr_type → type ≢ uir_type → (In m freed → ⊥) → Kept linked now m
    kept_used m type i is g u out = others_kept frees m i (λ e. g (sym is ∙ sym (types_same m i) ∙ e)) (λ e. u (sym is ∙ sym (types_same m i) ∙ e)) out
      where
        types_same : (m : ℕ) → In m s.records → type_at linked m ≡ type_at b m
        types_same m i = elim (x.edit.kind m i) [ inl k ↦ k.1 | inr k ↦ elim k [ inl f ↦ absurd (f.0 i) | inr none ↦ absurd none ] ]

    -- a block that is not freed stays
    pub block_left : (m : ℕ) → In m (places_of (leaves_of own.index)) → (In m freed → ⊥) → Kept b now m
    block_left m i out =
        let there = behind_in good at m (block_behind own m i) in
        let k = block_kept good at (linked_index good at x) m i in
        let typed_block = block_type b s.records own.vdr (leaves_of own.index) (fits good at).2 m i in
        let l : Kept linked now m = elim typed_block [
          | inl t ↦ kept_used m vvr_type there t (apart vvr_type gdr_type refl) (apart vvr_type uir_type refl) out
          | inr t ↦ kept_used m cvvr_type there t (apart cvvr_type gdr_type refl) (apart cvvr_type uir_type refl) out
        ] in
        kept_then k ((heads good at x).sizes m there) l

    -- where each block that stays is not packed, or keeps all its records
    module _ (in_order : InOrder 0 record_number_limit rest) (ruled_now : Each (IsPlainOrWhole (leaves_of own.index)) (leaves_of rest)) (short : length b ≤ image_limit) where
      plain_ruled : (l : Leaf) → IsOneOf (leaves_of rest) l → l.packed ≡ false → Hold (leaf_rows now s.records own.vdr l)
      plain_ruled l i p =
          let f = of_each (LeafFits now s.records own.vdr) (leaves_of rest) l fits_then.2 i in
          let named = of_each (Named now s.records) (leaves_of rest) l (leaves_named now s.records 8 rest stands.has_nodes) i in
          let none : is_a now s.records cvvr_type l.place ≡ false = (let t = named.1 ∙ p in grind (arith, t)) in
          leaf_held now s.records own.vdr l none (rw p at f.1)

      whole_ruled : (l : Leaf) → IsOneOf (leaves_of rest) l → AsMany (leaves_of own.index) l → Hold (leaf_rows now s.records own.vdr l)
      whole_ruled l i w =
          let there = subst (λ (p : ℕ). In p (places_of (leaves_of rest))) w.place_is (leaf_place_in (leaves_of rest) l i) in
          many_ruled good at whole l w (block_left w.old.place (leaf_place_in (leaves_of own.index) w.old w.one) (stays_used w.old.place (inr there)))

      leaf_ruled : (l : Leaf) → IsOneOf (leaves_of rest) l → (is_block now s.records l.place ≡ true) × Hold (leaf_rows now s.records own.vdr l)
      leaf_ruled l i =
          let f = of_each (LeafFits now s.records own.vdr) (leaves_of rest) l fits_then.2 i in
          (f.0, elim (of_each (IsPlainOrWhole (leaves_of own.index)) (leaves_of rest) l ruled_now i) [ inl p ↦ plain_ruled l i p | inr w ↦ whole_ruled l i w ])

      rows : Hold (index_rows now s.records own.vdr rest)
      rows = index_rules now s.records own.vdr rest in_order (room_now short) leaf_ruled

      pub good_now : Good now
      good_now =
          let clear = link_tests kind own.vdr (nodes_of own.index) (length b) in
          let g = (sound good at).has_shape.gdr_is in
          let end_b : eof b s.gdr ≡ length b = rw g at (good_eof b good) in
          let end : eof now s.gdr ≡ length now = gdr_still frees gdr_eof (omega arith) ∙ gdr_field (sound good at) x.edit clear.tests.file_clear gdr_eof clear.end_clear (omega arith) ∙ end_b ∙ sym (freed_long frees) in
          of_index.good_now good at whole rows (ap is_max_rec max_kept ∙ (own_rules good at).0.1.1.1.1.1.1.1.0) owned_now end (omega (arith, freed_long frees, short))

-- no block that stays is packed where none was
pub plain_left : (span : Span) (nodes : Nodes) → Each (λ (l : Leaf). l.packed ≡ false) (leaves_of nodes) → Each (IsPlainOrWhole (leaves_of nodes)) (leaves_of (cut span nodes))
plain_left span nodes plain = each_left span (λ (l : Leaf). l.packed ≡ false) (IsPlainOrWhole (leaves_of nodes)) (λ l p m left. inl (left.packed_is ∙ p)) nodes plain
