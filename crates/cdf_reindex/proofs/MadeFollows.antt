-- The new nodes are taken and written, VXRhead and VXRtail lead to them, and the old nodes are freed: one edit, by which a good image stays good, and which follows `reindex`.
use Rattle.cdf_reindex.proofs.Common.{Act, ActsFollow, AllGiven, AllKeep, Allowances, AreFree, AreTiles, Bool, ByStep, Counts, DataSet, Each, Each-in, Each-map, Edit, Exchanged, Field, Follows, Found, FreedStay, Frees, GivenStay, Go, Good, HasVariable, Hold, Hold-split, In, In-append, In-append_left, In-append_right, InOrder, IndexEdit, IndexTests, IsBare, IsBuilt, IsChain, IsIndex, IsNode, IsOneOf, IsRebuilt, IsSound, Kept, Kind, Leaf, LeafFits, LiesIn, List, MakesIndex, Mark, MayWrite, NewIndex, NextsAreZero, NodeFits, NodeSpareStays, Nodes, None, OfVariable, Only, Option, OwnEdit, R, Range, Reindexed, Same, SameHeads, Shape, Some, StandsAmong, TakenAll, UnusedEntries, Variable, VariableFits, VariableShape, Z, [], acts_still_by, all_freed, all_gave, ap, apart, append-nil, arith, avoided, away-avoids, behind_in, block_behind, block_fits_alike, block_kept, by_kind, by_range, cast_signed, chain_stays, content, content_is, content_now, cpr_behind, cpr_type, cvvr_type, descriptor_allowed, distinct_if, each, each_holds, each_of, edit_then, edit_under, end_stays, eof, eq-eqb, false, field, field_reads, file, fits, fixed_size, flat_map, freed_edit, freed_long, freed_places, freed_records, freed_shape, freed_stay, freeing_behind, freeing_marks, fresh_unowned, gave, gave-same, gdr_eof, gdr_field, gdr_place, gdr_still, gdr_type, gdr_uir_head, got-middle, has, heads_written, if◌then◌else◌, image_limit, in-times, index_edit, index_keeps, index_marks, index_order, index_rows, index_rules, inl, inr, is_a, is_a-type, is_block, is_in, is_in-true, is_linkable, is_record_type, is_taken_at, keeps_file, kept, kept_away, last_node, leaf_rows, leaf_same, leaves_of, length, length-with_field, levels_up, link_to, linkable-in, linkable-long, linkable-type, links_end, links_mark, listed_free, long, made_acts, map, map-append, max_rec_kept, may_free, nat_le, nat_lt, negsuc, next_of, no_fields, no_node, node, node_allowed, node_behind, node_room, nodes_above, nodes_at, nodes_kept, nodes_of, nodes_rows, nodes_stand, none_in_use, none_of_both, not_twice_kept, number, number_kept, of_each, other_words, others_kept, own_edit, own_rules, owned, owned-times, owned_records, packed_stays, parts_times, plain_alike, pos, range_at, record_number_limit, records_alike, records_in, refl, reindex_changes, reindex_room, reindex_step, room, room_at, rules, same_as_itself, same_shape, shape, shapes_of, size_at, size_kept, sizes_before, sizes_by_tiles, slice_get, some_bytes, sound, sound_if, sound_now, space_fields, spliced_times, splices, staying_follows, stays, stays_alike, stays_all, subst, sum, sum_by-cons, sym, taken, taken-gave, taking_all, through, tile, times, times-append, times-in, times-none, times-once, top_stays, true, true≢false, type_at, type_in, type_kept, typed, uir_type, unlisted_away, unmarked, unmarked-away, used_times, variable_named, variable_of, variable_records, variable_stays, variables_chain, variables_of, variables_of_are, vdr_alike, vdr_no_node, vdr_size, vdr_vxr_head, vdr_vxr_tail, vdrs, vvr_type, vxr_bytes, vxr_n_used_entries, vxr_type, w32, with_field, with_index, with_shapes, with_variables, with_writes, write, write_lies, writes_edit, writes_long, ℕ, ◌&&◌, ◌*◌, ◌++◌, ◌+◌, ◌<◌, ◌∙◌, ◌∷◌, ◌≡◌, ◌≢◌, ◌≤◌, ◌⊎◌}
use Rattle.cdf_edits.proofs.Edits.LeafPieces.{place_in as leaf_in}
use Rattle.cdf_edits.proofs.Edits.InRecords.{places_of}
use Rattle.cdf_index.proofs.NewIndex.{good_now as changed_good}
use Rattle.cdf_reindex.proofs.Levels.{in_by_times}
use Rattle.cdf_reindex.proofs.PyramidBuilt.{no_pyramid, all_taken, bare_by, end_before, node_takes, own_of}
use Rattle.cdf_edits.proofs.Edits.OwnEdited as of_own_edit
use Rattle.cdf_model.specs.declared.answer.Reply.TheVariants as replies
use Rattle.cdf_model.specs.declared.command.Command.TheVariants as commands

-- ---- marks

abbrev pub heads_marks : Kind → ℕ → List Mark
heads_marks kind v = links_mark kind v ∷ []

-- and nodes are freed: nothing is said of these, which have no more bytes than so many
abbrev pub index_made_marks : Kind → ℕ → List ℕ → List ℕ → List ℕ → ℕ → List Mark
index_made_marks kind v unused new nodes limit = taking_all unused new (vxr_bytes 64) ++ index_marks kind v nodes (field 0 limit)

-- which types of records the edits leave
pub record HeadTests (kind : Kind) (v : ℕ) (unused new nodes : List ℕ) (limit : ℕ) : Type 0 where
  pub tests : IndexTests kind space_fields (index_made_marks kind v unused new nodes limit)
  pub untaken : unmarked (taking_all unused new (vxr_bytes 64)) (type_in (variables_chain kind)) ≡ true
  pub used : type_in (variables_chain kind) ≢ uir_type
  pub no_gdr : type_in (variables_chain kind) ≢ gdr_type
  pub nodes_clear : unmarked (heads_marks kind v) vxr_type ≡ true
  pub unused_clear : unmarked (heads_marks kind v) uir_type ≡ true
  pub file_clear : keeps_file (heads_marks kind v) ≡ true
  pub list_clear : avoided (heads_marks kind v) gdr_type 64 72 ≡ true
  pub end_clear : avoided (heads_marks kind v) gdr_type 36 44 ≡ true

made_tests : (kind : Kind) (v : ℕ) (unused new nodes : List ℕ) (limit : ℕ) → HeadTests kind v unused new nodes limit
made_tests kind v unused new nodes limit = grind arith

-- where none has one behind it, the first is the last
last_is : (nodes : Nodes) → NextsAreZero nodes → last_node nodes ≡ link_to nodes
unfolding NextsAreZero
last_is no_node z = refl
last_is (node place room entries no_node) z = refl
last_is (node place room entries (node other wide others more)) z = absurd z

-- ---- the step of a data set

pub goes_by : (d : DataSet) (name : List ℕ) (found : Found) → variable_named d name ≡ Some found → reindex_step d name ≡ Go d replies.Plain
goes_by d name found e = rw e refl

got_at : {n : ℕ} {vs : List VariableShape} (before : List VariableShape) (own : VariableShape) (after : List VariableShape) → n ≡ length before → vs ≡ before ++ own ∷ after → slice_get vs n ≡ Some own
got_at before own after at was = (λ i. slice_get (was i) (at i)) ∙ got-middle before own after

-- ---- the nodes that are taken, before others are freed, each of which has as many bytes

taken_new : (b new old : List ℕ) → (map (λ (take : ℕ × ℕ). take.0) (taken (node_takes new ++ gave b old)) ≡ new) × (sum (map (λ (take : ℕ × ℕ). take.1) (taken (node_takes new ++ gave b old))) ≡ vxr_bytes 64 * length new)
taken_new b [] old = rw (taken-gave b old) (refl, refl)
taken_new b (place ∷ new) old = let r = taken_new b new old in (ap (λ (xs : List ℕ). place ∷ xs) r.0, sum_by-cons (λ x. x) (vxr_bytes 64) (map (λ (take : ℕ × ℕ). take.1) (taken (node_takes new ++ gave b old))) ∙ omega (arith, r.1))

given_after : (b now : List ℕ) (acts : List Act) (new : List ℕ) (given : List Act) → GivenStay b now no_fields acts given → GivenStay b now no_fields acts (node_takes new ++ given)
given_after b now acts [] given g = g
given_after b now acts (place ∷ new) given g = given_after b now acts new given g

-- ---- another top chain

top_moves : (acts : List Act) (old new : Nodes) → IsNode old → ((m : ℕ) → In m (nodes_of new) → is_taken_at acts m ≡ true) → top_stays acts old old new ≡ false
unfolding nodes_of
top_moves acts no_node new is all = absurd is
top_moves acts (node place room entries more) no_node is all = grind arith
top_moves acts (node place room entries more) (node other wide others next) is all = grind (arith, all other (inl refl))

-- ---- a variable by its name

module _ (b name : List ℕ) (found : Found) {own : VariableShape} (named : variable_named (content b) name ≡ Some found) (there : slice_get (shapes_of (shape b) found.kind) found.number ≡ Some own) where
  pub room_is : room b (commands.Reindex name) ≡ reindex_room own.index
  room_is = ap (λ (o : Option Found). elim o as (λ x. ℕ) [ None ↦ 0 | Some f ↦ elim (slice_get (shapes_of (shape b) f.kind) f.number) as (λ x. ℕ) [ None ↦ 0 | Some v ↦ reindex_room v.index ] ]) named
      ∙ ap (λ (o : Option VariableShape). elim o as (λ x. ℕ) [ None ↦ 0 | Some v ↦ reindex_room v.index ]) there

  does_by : {now : List ℕ} {own' : VariableShape} {acts : List Act} → slice_get (shapes_of (shape now) found.kind) found.number ≡ Some own' → MakesIndex b now own own' acts → OfVariable b now name (λ other v v'. MakesIndex b now v v' acts)
  does_by {now = now} {own' = own'} {acts = acts} there' makes other v v' is =
      let same : found ≡ other = cc in
      let was : own ≡ v = cc in
      let by_now : own' ≡ v' = cc in
      rw (← was, ← by_now) makes

-- ---- an image in which a variable has another index by now, of the same leaves, in new nodes: its rules and its content

module _ {b now : List ℕ} {kind : Kind} {before : List VariableShape} {own : VariableShape} {after : List VariableShape} {index : Nodes} {new list : List ℕ} {fields : List Field} {space : List Mark} {nodes : List ℕ} {f : Field} {reborn : List ℕ} (good : Good b) (at : StandsAmong b kind before own after)
    (y : NewIndex b now kind own index new list fields space nodes f reborn) (same : leaves_of index ≡ leaves_of own.index) (bare : Each (IsBare now) (nodes_of index)) where
  abbrev ie : IndexEdit b now kind own index new list (space ++ index_marks kind own.vdr nodes f) reborn
  ie = index_edit good at y

  abbrev ls : List Leaf
  ls = leaves_of own.index

  -- a record that is kept has the type that it had
  is_a_now : (type m : ℕ) → In m (shape b).records → Kept b now m → is_a now new type m ≡ is_a b (shape b).records type m
  is_a_now type m i k = grind (arith, is_in-true m new (y.edit.sub m i), is_in-true m (shape b).records i, type_kept b now m k.same k.long)

  -- the leaves keep their rules
  leaf_now : (l : Leaf) → IsOneOf ls l → LeafFits now new own.vdr l × Hold (leaf_rows now new own.vdr l)
  leaf_now l i =
      let m = l.place in
      let place = leaf_in ls l i in
      let was = behind_in good at m (block_behind own m place) in
      let k = block_kept good at y m place in
      let alike = stays_alike (file good at ie) (stays good at ie) in
      let fit = of_each (LeafFits b (shape b).records own.vdr) ls l (fits good at).2 i in
      let rule = of_each (λ (a : Leaf). Hold (leaf_rows b (shape b).records own.vdr a)) ls l (each_holds (leaf_rows b (shape b).records own.vdr) ls (Hold-split (nodes_rows b (shape b).records (negsuc 0) (pos record_number_limit) own.index) (flat_map (leaf_rows b (shape b).records own.vdr) ls) (own_rules good at).1).1) i in
      let block : is_block now new m ≡ true = grind (arith, fit.0, is_a_now vvr_type m was k, is_a_now cvvr_type m was k) in (
        (block, block_fits_alike (file good at ie) alike l l.packed k fit.1),
        subst Hold (sym (leaf_same b now (file good at ie) own.vdr own.vdr (packed_stays (file good at ie) (stays good at ie)) (plain_alike (file good at ie) alike) (shape b).records new (sound good at).has_shape.fixed l (λ type. is_a_now type m was k) k rule)) rule,
      )

  cpr_now : (m : ℕ) → In m own.cpr → is_a now new cpr_type m ≡ true
  cpr_now m i =
      let was = behind_in good at m (cpr_behind own m i) in
      let is = Each-in (λ c. is_a b (shape b).records cpr_type c ≡ true) own.cpr (fits good at).3 m i in
      is_a_now cpr_type m was (kept y.edit m cpr_type was (is_a-type b (shape b).records cpr_type m is) y.tests.cpr_clear) ∙ is

  fit : Each (NodeFits now) (nodes_of index)
  fit = Each-map (IsBare now) (NodeFits now) (λ m r. r.fits) (nodes_of index) bare

  pub fits_now : VariableFits now new (with_index own index)
  fits_now = (rw (vdr_size good at ie, end_stays (file good at ie) (stays good at ie)) (fits good at).0, fit, subst (Each (LeafFits now new own.vdr)) (sym same) (each_of (LeafFits now new own.vdr) ls (λ l i. (leaf_now l i).0)), each (λ m. is_a now new cpr_type m ≡ true) own.cpr cpr_now)

  pub index_ruled : (InOrder 0 record_number_limit own.index → InOrder 0 record_number_limit index) → length now ≤ image_limit → Hold (index_rows now new own.vdr index)
  index_ruled order short =
      let count = Each-map (IsBare now) (Counts now) (λ m r. subst (λ (n : ℕ). number now m vxr_n_used_entries ≤ n) (sym r.room_is) r.few) (nodes_of index) bare in
      index_rules now new own.vdr index (order (index_order b (shape b).records own.vdr own.index (own_rules good at).1)) (node_room good at y fit count short) (λ l i. let r = leaf_now l (subst (λ (ms : List Leaf). IsOneOf ms l) same i) in (r.0.0, r.1))

  -- ---- what the variable means, and all

  pub content_same : content now ≡ content b
  content_same =
      let max = max_rec_kept good at y in
      let recs = ap (records_in now own.vdr) same ∙ records_alike (file good at ie) (vdr_alike good at ie) max ls (shape b).records (block_kept good at y) (fits good at).2 in
      let means : variable_of now (with_index own index) ≡ variable_of b own = variable_stays (file good at ie) own (with_index own index) (stays good at ie) refl ∙ (λ i. record (variable_of b own) { max_rec = cast_signed w32 (max i); recs = recs i }) in
      let all : variables_of (content b) kind ≡ map (variable_of b) before ++ variable_of b own ∷ map (variable_of b) after =
      ap (λ (d : DataSet). variables_of d kind) (content_is b (shape b) (sound good at).has_shape) ∙ variables_of_are b (shape b) kind ∙ ap (map (variable_of b)) at.was ∙ map-append (variable_of b) before (own ∷ after) in
      let itself : with_variables (content b) kind (variables_of (content b) kind) ≡ content b = elim kind as (λ k. with_variables (content b) k (variables_of (content b) k) ≡ content b) [ R ↦ refl | Z ↦ refl ] in
      content_now (sound good at) (splices good at (own_edit good at y)) ∙ ap (λ (w : Variable). with_variables (content b) kind (map (variable_of b) before ++ w ∷ map (variable_of b) after)) means ∙ ap (with_variables (content b) kind) (sym all) ∙ itself

-- ---- the nodes are taken

module _ {b made : List ℕ} {kind : Kind} {before : List VariableShape} {own : VariableShape} {after : List VariableShape} {index : Nodes} (good : Good b) (among : StandsAmong b kind before own after) (x : IsBuilt b made own index) where
  abbrev s : Shape
  s = shape b

  abbrev v : ℕ
  v = own.vdr

  abbrev ps : List ℕ
  ps = levels_up 7 index

  abbrev os : List ℕ
  os = nodes_of own.index

  abbrev rs : List ℕ
  rs = (shape made).records

  tests : (nodes : List ℕ) (limit : ℕ) → HeadTests kind v s.unused ps nodes limit
  tests nodes limit = made_tests kind v s.unused ps nodes limit

  pub t : TakenAll b made (node_takes ps) ps (vxr_bytes 64)
  t = all_taken b made ps (sound good among) (end_before b good) x.taken

  vdr_made : (type_at made v ≡ type_in (variables_chain kind)) × (340 ≤ size_at made v)
  vdr_made =
      let k = kept t.grows.edit v _ (tile good among) (typed good among) (tests [] 0).untaken in
      (type_kept b made v k.same k.long ∙ typed good among, subst (λ (n : ℕ). 340 ≤ n) (sym (size_kept b made v k.same (let l = k.long in omega arith))) (long good among))

  some : 8 ≤ length made
  some = some_bytes made (shape made) t.grows.sound.has_shape

  -- VXRhead and VXRtail are written
  pub lies : (f : Field) → f.place + f.width ≤ 44 → LiesIn made v f
  lies f high = write_lies made rs t.grows.sound.has_shape.tiled some v f (t.grows.edit.sub v (tile good among)) (omega (arith, vdr_made.1))

  tail_lies : (first : List ℕ) → first ≡ with_field made v vdr_vxr_head (link_to index) → LiesIn first v vdr_vxr_tail
  tail_lies first one = omega (arith, ap length one ∙ length-with_field made v vdr_vxr_head (link_to index) (lies vdr_vxr_head (omega arith)), lies vdr_vxr_tail (omega arith))

  may_write : (f : Field) → 28 ≤ f.place → f.place + f.width ≤ 44 → MayWrite made rs (heads_marks kind v) (write v f (link_to index))
  may_write f low high =
      let used : type_at made v ≢ uir_type = λ u. (tests [] 0).used (sym vdr_made.0 ∙ u) in
      search (arith, rules, t.grows.edit.sub v (tile good among), used, through (f.place + f.width) 340 (size_at made v) (omega arith) vdr_made.1, vdr_made.0, low, high)

  may_all : Each (MayWrite made rs (heads_marks kind v)) (heads_written v index)
  may_all = (may_write vdr_vxr_head (omega arith) (omega arith), (may_write vdr_vxr_tail (omega arith) (omega arith), tt))

  -- the old nodes, and the new ones, which are none of them
  node_before : (m : ℕ) → In m os → In m s.records
  node_before m i = behind_in good among m (node_behind own m i)

  node_typed : (m : ℕ) → In m os → type_at b m ≡ vxr_type
  node_typed m i = linkable-type b s.records vxr_type m (nodes_stand b s.records 8 own.index (has good among).indexed.has_nodes m i)

  old_made : (m : ℕ) → In m os → type_at made m ≡ vxr_type
  old_made m i = let k = kept t.grows.edit m vxr_type (node_before m i) (node_typed m i) refl in type_kept b made m k.same k.long ∙ node_typed m i

  in_places : (m : ℕ) → In m (nodes_of index) → In m ps
  in_places m i = in_by_times (nodes_of index) ps (λ k. sym (x.each_taken k)) m i

  stood : (m : ℕ) → In m ps → is_linkable made rs vxr_type m ≡ true
  stood m i = nodes_stand made rs 8 index x.stands m (in_by_times ps (nodes_of index) x.each_taken m i)

  new_in : (m : ℕ) → In m ps → In m rs
  new_in m i = linkable-in made rs vxr_type m (stood m i)

  new_made : (m : ℕ) → In m ps → type_at made m ≡ vxr_type
  new_made m i = linkable-type made rs vxr_type m (stood m i)

  new_apart : (m : ℕ) → In m ps → In m os → ⊥
  new_apart m i j = apart vxr_type uir_type refl (sym (node_typed m j) ∙ t.fresh_all m i (node_before m j))

  -- ---- VXRhead and VXRtail lead to the new nodes

  module _ {linked : List ℕ} (heads : linked ≡ with_writes made (heads_written v index)) where
    pub heads_edit : Edit made linked rs rs (heads_marks kind v) []
    heads_edit = subst (λ (y : List ℕ). Edit made y rs rs (heads_marks kind v) []) (sym heads) (writes_edit made rs (heads_marks kind v) (heads_written v index) t.grows.sound.has_shape.tiled some may_all)

    pub linked_long : length linked ≡ length made
    linked_long = ap length heads ∙ writes_long made rs (heads_marks kind v) (heads_written v index) t.grows.sound.has_shape.tiled some may_all

    -- both edits at once
    grown : Edit b linked s.records rs (taking_all s.unused ps (vxr_bytes 64) ++ heads_marks kind v) ps
    grown = subst (Edit b linked s.records rs (taking_all s.unused ps (vxr_bytes 64) ++ heads_marks kind v)) (append-nil ps) (edit_then t.grows.edit heads_edit)

    pub node_linked : (m : ℕ) → In m os → Kept b linked m
    node_linked m i = kept grown m vxr_type (node_before m i) (node_typed m i) (tests [] 0).nodes_clear

    new_kept : (m : ℕ) → In m ps → Kept made linked m
    new_kept m i = kept heads_edit m vxr_type (new_in m i) (new_made m i) (tests [] 0).nodes_clear

    new_linked : (m : ℕ) → In m ps → type_at linked m ≡ vxr_type
    new_linked m i = let k = new_kept m i in type_kept made linked m k.same k.long ∙ new_made m i

    same_heads : SameHeads made linked rs rs
    same_heads =
        let sizes = sizes_by_tiles made linked 8 8 (length made) rs refl t.grows.sound.has_shape.tiled (subst (λ (n : ℕ). AreTiles linked 8 n rs) linked_long heads_edit.tiled_now) in
        let types : (m : ℕ) → In m rs → type_at linked m ≡ type_at made m = λ m i. elim (heads_edit.kind m i) [ inl k ↦ k.1 | inr k ↦ elim k [ inl u ↦ absurd (u.0 i) | inr none ↦ absurd none ] ] in
        search (rules, sizes, types)

    linked_index : NewIndex b linked kind own index rs (shape made).unused space_fields (taking_all s.unused ps (vxr_bytes 64)) [] (field 0 0) ps
    linked_index =
        let edit = edit_under grown (index_made_marks kind v s.unused ps [] 0) (λ m type lo hi i is a. (a.0, (a.1.0, (a.1.1.0, (a.1.1.1.0, (a.1.1.1.1.0, (a.1.1.1.1.1.0, tt))))))) in
        let long : (m : ℕ) → In m ps → fixed_size vxr_type ≤ size_at linked m = λ m i. omega (arith, same_heads.sizes m (new_in m i), linkable-long made rs vxr_type m (stood m i)) in
        let typed : (m : ℕ) → In m ps → (is_record_type (type_at linked m) ≡ true) × (fixed_size (type_at linked m) ≤ size_at linked m) = λ m i. rw (new_linked m i) (refl, long m i) in
        let head = gdr_field t.grows.sound heads_edit (tests [] 0).file_clear gdr_uir_head (tests [] 0).list_clear (omega arith) in
        let unused = subst (λ (g : ℕ). IsChain linked rs uir_type (number linked g gdr_uir_head) (shape made).unused) (ap (λ (y : Shape). y.gdr) t.grows.same_shape)
        (chain_stays heads_edit uir_type _ _ (shape made).unused t.grows.sound.has_shape.unused_chain head (λ m i. away-avoids (heads_marks kind v) uir_type m 0 20 (unmarked-away (heads_marks kind v) uir_type m (tests [] 0).unused_clear))) in
        let link = ap (λ (y : List ℕ). number y v vdr_vxr_head) heads ∙ other_words _ v vdr_vxr_tail (link_to index) (v + 28) 8 (tail_lies _ refl) (inl (omega arith)) ∙ field_reads made v vdr_vxr_head (link_to index) (lies vdr_vxr_head (omega arith)) x.small in
        let nodes = nodes_kept made linked rs rs same_heads 8 index x.stands (λ m i. new_kept m (in_places m i)) (λ m i. (Each-in (IsBare made) (nodes_of index) x.bare m i).fits)
        (λ m i. t.grows.edit.sub m (behind_in good among m (block_behind own m (subst (λ (ls : List Leaf). In m (places_of ls)) x.leaves_stay i)))) in
        let once = distinct_if (nodes_of index) (λ m. (let one : 0 < times m ps → times m ps ≡ 1 = λ some. times-once m ps t.once (in-times m ps some) in grind (arith, x.each_taken m, one))) in
        search (rules, edit, (tests [] 0).tests, typed, unused, link, nodes, once)

    abbrev linked_edit : OwnEdit b linked kind own index rs (shape made).unused (index_made_marks kind v s.unused ps [] 0) ps
    linked_edit = own_edit good among linked_index

    abbrev s' : Shape
    s' = with_shapes s kind rs (shape made).unused (before ++ with_index own index ∷ after)

    pub linked_shape : shape linked ≡ s'
    linked_shape = same_shape good among linked_edit

    -- how often the owners have a record
    used_now : (m : ℕ) → used_times s' m + times m os ≡ used_times s m + times m ps
    used_now m = spliced_times s kind rs (shape made).unused before (own ∷ []) (with_index own index ∷ []) after among.was m (times m ps) (times m os)
        (omega (arith, times-append m (variable_records (with_index own index)) [], times-append m (variable_records own) [], parts_times own m, parts_times (with_index own index) m, ap (λ (ls : List Leaf). times m (places_of ls)) x.leaves_stay, x.each_taken m))

    pub sound_linked : IsSound linked (shape linked)
    sound_linked = subst (IsSound linked) (sym linked_shape) (sound_if (sound good among) (splices good among linked_edit) (fits_now good among linked_index x.leaves_stay (each (IsBare linked) (nodes_of index) (λ m i. bare_by made linked m (new_kept m (in_places m i)) (Each-in (IsBare made) (nodes_of index) x.bare m i))), tt)
        (not_twice_kept b linked s s' _ ps (sound good among) linked_index.edit (λ m out. omega (arith, used_now m, times-none m ps out))
        (λ m i. inl ((λ u. apart vxr_type uir_type refl (sym (new_linked m i) ∙ u)), omega (arith, used_now m, fresh_unowned (sound good among) m (t.fresh_all m i), times-once m ps t.once i)))))

    pub old_free : AreFree linked os
    old_free =
        let stand : (m : ℕ) → In m os → In m (shape linked).records = λ m i. subst (λ (y : Shape). In m y.records) (sym linked_shape) (t.grows.edit.sub m (node_before m i)) in
        let unowned : (m : ℕ) → In m os → times m (owned_records linked (shape linked)) ≡ 0 = λ m i. subst (λ (y : Shape). times m (owned_records linked y) ≡ 0) (sym linked_shape)
        (none_in_use linked s' heads_edit.tiled_now m (λ u. apart vxr_type uir_type refl (sym (same_heads.types m (t.grows.edit.sub m (node_before m i)) ∙ old_made m i) ∙ u)) (omega (arith, used_now m, (sound good among).not_twice m, owned-times b s m, times-in m os i, times-none m ps (λ j. new_apart m j i)))) in
        search (rules, stand, unowned, (has good among).indexed.once)

    -- ---- the old nodes are freed

    module _ (now : List ℕ) (given : AllGiven linked now os) where
      pub frees : Frees made linked now (heads_marks kind v) (vxr_type ∷ []) os
      frees =
          let records = ap (λ (y : Shape). y.records) linked_shape in
          let unused = ap (λ (y : Shape). y.unused) linked_shape in
          let typed : (m : ℕ) → In m os → is_in (type_at made m) (vxr_type ∷ []) ≡ true = λ m i. ap (λ (k : ℕ). is_in k (vxr_type ∷ [])) (old_made m i) in
          search (rules, t.grows.sound, heads_edit, linked_long, sound_linked, records, unused, old_free, typed, given)

      onward : Edit made now rs (shape now).records (heads_marks kind v ++ freeing_marks (vxr_type ∷ []) (shape made).unused os (length linked)) os
      onward = subst (λ (ns : List ℕ). Edit made now rs ns (heads_marks kind v ++ freeing_marks (vxr_type ∷ []) (shape made).unused os (length linked)) os) (sym (freed_records frees)) (freed_edit frees)

      stands_now : IsIndex now (shape now).records (number now v vdr_vxr_head) index
      stands_now = (own_of (HasVariable now (shape now).records) now (of_own_edit.among_now good among linked_edit) (freed_shape frees refl) (sound_now frees).has_shape.have_variables).indexed

      new_now : (m : ℕ) → In m ps → Kept made now m
      new_now m i = kept_away onward m vxr_type (new_in m i) (new_made m i) ((λ e l. vdr_no_node kind (sym e)), ((λ e l. apart vxr_type gdr_type refl e), ((λ e l. apart vxr_type uir_type refl e), ((λ e l. new_apart m i l), tt))))

      pub bare_now : Each (IsBare now) (nodes_of index)
      bare_now = each (IsBare now) (nodes_of index) (λ m i. bare_by made now m (new_now m (in_places m i)) (Each-in (IsBare made) (nodes_of index) x.bare m i))

      tail_now : number now v vdr_vxr_tail ≡ last_node index
      tail_now =
          let there = t.grows.edit.sub v (tile good among) in
          let tail_is = ap (λ (y : List ℕ). number y v vdr_vxr_tail) heads ∙ field_reads _ v vdr_vxr_tail (link_to index) (tail_lies _ refl) x.small in
          let type : type_at linked v ≡ type_in (variables_chain kind) = same_heads.types v there ∙ vdr_made.0 in
          let k = others_kept frees v there (λ e. (tests [] 0).no_gdr (sym type ∙ e)) (λ e. (tests [] 0).used (sym type ∙ e)) (λ i. vdr_no_node kind (sym (typed good among) ∙ node_typed v i)) in
          number_kept linked now v k.same vdr_vxr_tail (omega (arith, same_heads.sizes v there, vdr_made.1)) ∙ tail_is ∙ sym (last_is index x.nexts)

      -- ---- the whole

      pub edit : Edit b now s.records (shape now).records (index_made_marks kind v s.unused ps os (length linked)) (ps ++ os)
      edit = edit_under (edit_then t.grows.edit onward) (index_made_marks kind v s.unused ps os (length linked)) (λ m type lo hi i is a.
          (a.0, (a.1.0, (a.1.1.0, (a.1.1.1.0, (a.1.1.1.1.0, (a.1.1.1.1.1.0, (a.1.0, ((λ same lies. a.1.1.1.0 same (t.before m i lies)), (a.1.1.1.1.1.1.0, tt))))))))))

      pub new_index : NewIndex b now kind own index (shape now).records (shape now).unused space_fields (taking_all s.unused ps (vxr_bytes 64)) os (field 0 (length linked)) (ps ++ os)
      new_index =
          let there : (m : ℕ) → In m (ps ++ os) → In m (shape now).records = λ m i. elim (In-append m ps os i) [ inl j ↦ onward.sub m (new_in m j) | inr j ↦ onward.sub m (t.grows.edit.sub m (node_before m j)) ] in
          let typed : (m : ℕ) → In m (ps ++ os) → (is_record_type (type_at now m) ≡ true) × (fixed_size (type_at now m) ≤ size_at now m) = λ m i. ((sound_now frees).has_shape.typed m (there m i), (sound_now frees).has_shape.fixed m (there m i)) in
          let gdr = sym (sound_now frees).has_shape.gdr_is ∙ gdr_place (sound good among) edit (tests os (length linked)).tests.file_clear in
          search (rules, edit, (tests os (length linked)).tests, typed, rw gdr at (sound_now frees).has_shape.unused_chain, stands_now)

      pub rebuilt : IsRebuilt b now own
      rebuilt = search (arith, rules, x, heads, sound_linked, given, stands_now, tail_now, bare_now, sound_now frees, content_same good among new_index x.leaves_stay bare_now, freed_long frees, x.longest)

      -- ---- a good image stays good

      new_type : (m : ℕ) → In m ps → type_at now m ≡ vxr_type
      new_type m i = let k = new_now m i in type_kept made now m k.same k.long ∙ new_made m i

      exchanged : Exchanged b now own index (ps ++ os) ps os
      exchanged =
          let back : (m : ℕ) → In m ps ⊎ In m os → In m (ps ++ os) = λ m i. elim i [ inl j ↦ In-append_left m ps os j | inr j ↦ In-append_right m ps os j ] in
          let times_are : (m : ℕ) → times m (nodes_of index) + times m (places_of (leaves_of index)) + times m os ≡ times m os + times m (places_of (leaves_of own.index)) + times m ps = λ m. omega (arith, ap (λ (ls : List Leaf). times m (places_of ls)) x.leaves_stay, x.each_taken m) in
          let in_use = λ (m : ℕ) (i : In m ps) (u : type_at now m ≡ uir_type). apart vxr_type uir_type refl (sym (new_type m i) ∙ u) in
          search (rules, In-append, back, times_are, t.fresh_all, t.once, in_use, (has good among).indexed.once, all_freed frees)

      abbrev made_edit : OwnEdit b now kind own index (shape now).records (shape now).unused (index_made_marks kind v s.unused ps os (length linked)) (ps ++ os)
      made_edit = own_edit good among new_index

      pub among_now : StandsAmong now kind before (with_index own index) after
      among_now = of_own_edit.among_now good among made_edit

      -- the descriptors of both kinds stay where they are
      pub vdrs_stay : (k : Kind) → vdrs (shapes_of (shape now) k) ≡ vdrs (shapes_of s k)
      vdrs_stay = by_kind (λ (k : Kind) (vs : List VariableShape). vdrs (shapes_of (shape now) k) ≡ vdrs (shapes_of s k)) kind s [] (ap vdrs among_now.was ∙ of_own_edit.same_vdrs good among made_edit) (ap vdrs (of_own_edit.others_are good among made_edit))

      pub good_now : length now ≤ image_limit → Good now
      good_now short =
          let end_now = subst (λ (g : ℕ). eof now g ≡ length now) (ap (λ (y : Shape). y.gdr) t.grows.same_shape) (gdr_still frees gdr_eof (omega arith) ∙ gdr_field t.grows.sound heads_edit (tests [] 0).file_clear gdr_eof (tests [] 0).end_clear (omega arith) ∙ t.grows.end_is ∙ sym (freed_long frees)) in
          changed_good good among new_index ps os exchanged (index_ruled good among new_index x.leaves_stay bare_now x.order short)
          end_now short

      -- ---- the acts

      pub same_size : (m : ℕ) → In m os → size_at linked m ≡ size_at b m
      same_size m i = let k = node_linked m i in size_kept b linked m k.same (let l = k.long in omega arith)

      pub freed_size : (m : ℕ) → In m os → size_at now m ≡ size_at b m
      freed_size m i = sizes_by_tiles made now 8 8 (length made) rs refl t.grows.sound.has_shape.tiled (subst (λ (n : ℕ). AreTiles now 8 n rs) (freed_long frees) (freed_edit frees).tiled_now) m (freed_places frees m i) ∙ sym (sizes_before frees m i) ∙ same_size m i

      pub made_follow : ActsFollow b now (made_acts b own.index index)
      made_follow = subst (λ (xs : List Act). ActsFollow b now (node_takes ps ++ xs)) (gave-same b linked os same_size)
          (all_gave b linked now (node_takes ps) (vxr_type ∷ []) os (sound good among).has_shape (acts_still_by t.grows.sound t.follow heads_edit (tests [] 0).unused_clear (ap (λ (y : Shape). y.records) linked_shape) (ap (λ (y : Shape). y.unused) linked_shape) linked_long) sound_linked (may_free frees) given)

      -- ---- what is done

      abbrev done : List Act
      done = made_acts b own.index index

      taken_all : (m : ℕ) → In m (nodes_of index) → is_taken_at done m ≡ true
      taken_all m i = is_in-true m _ (subst (In m) (sym (taken_new b ps os).0) (in_places m i))

      behind : (m : ℕ) → In m os → Same b now (m + links_end (size_at b m)) (m + size_at b m)
      behind m i =
          let last : Same linked now (m + links_end (size_at b m)) (m + size_at b m) = subst (λ (n : ℕ). Same linked now (m + links_end n) (m + n)) (sym (sizes_before frees m i) ∙ same_size m i) (freeing_behind frees m i) in
          record { each = λ k low up. last.each k low up ∙ (node_linked m i).same.each k (omega arith) up }

      makes : IsNode own.index → MakesIndex b now own (with_index own index) done
      makes some =
          let fewest = x.fewest ∙ ap (λ leaves. nodes_above 8 (length leaves)) (sym x.leaves_stay) in
          let wide = Each-map (IsBare now) (λ vxr. room_at now vxr ≡ 64) (λ m bare. bare.room_is) (nodes_of index) bare_now in
          let alone = Each-map (IsBare now) (λ vxr. next_of now vxr ≡ 0) (λ m bare. bare.next_is) (nodes_of index) bare_now in
          let unused = Each-map (IsBare now) (UnusedEntries b now [] [] done) (λ m bare i low high. inl (bare.unused i low (subst (λ (n : ℕ). i < n) bare.room_is high))) (nodes_of index) bare_now in
          let spare = each (NodeSpareStays b now done) (nodes_of index) (λ m i free. absurd (true≢false (sym (taken_all m i) ∙ free))) in
          let tail = tail_now ∙ sym (ap (λ (p : Bool). if p then number b v vdr_vxr_tail else last_node index) (top_moves done own.index index some taken_all)) in
          let freed : FreedStay b now no_fields done = given_after b now done ps (gave b os) (freed_stay b now done os no_fields (sound_now frees).has_shape.tiled (λ m i. subst (In m) (sym (freed_records frees)) (freed_places frees m i)) freed_size behind) in
          search (rules, x.leaves_stay, fewest, x.filled, wide, alone, unused, spare, tail, freed)

      -- ---- the command, which names the variable

      module _ (variable : Variable) (name : List ℕ) (named : variable_named (content b) name ≡ Some (record { kind = kind; number = length before; variable = variable })) where
        abbrev found : Found
        found = record { kind = kind; number = length before; variable = variable }

        allowed : (m : ℕ) (o : Option Range) → range_at s found m ≡ o → (reindex_changes b s found).variables kind (length before) m ≡ by_range b kind (vdr_vxr_head ∷ vdr_vxr_tail ∷ []) (λ rg. Only []) m o
        allowed m o is = rw (same_as_itself kind, eq-eqb (length before) (length before) refl) (ap (by_range b kind (vdr_vxr_head ∷ vdr_vxr_tail ∷ []) (λ rg. Only []) m) is)

        keeps : AllKeep b now (reindex_changes b s found) done (owned b s)
        keeps =
            let heads : List Field = vdr_vxr_head ∷ vdr_vxr_tail ∷ [] in
            let may = (reindex_changes b s found).variables kind (length before) in
            index_keeps good among new_index (reindex_changes b s found) done [] refl (descriptor_allowed found good among refl heads (λ rg. Only []) may allowed) (node_allowed found good among refl heads (λ rg. Only []) may allowed)
            (λ m i long free. listed_free t m i long (none_of_both (λ (take : ℕ × ℕ). nat_le m take.0 && nat_lt take.0 (m + size_at b m)) (node_takes ps) (gave b os) free).0) (unlisted_away t)

        pub rebuilt_follows : IsNode own.index → length now ≤ image_limit → Follows b (commands.Reindex name) now
        rebuilt_follows some short =
            let there = got_at before own after refl among.was in
            let goes = ap ByStep (goes_by (content b) name found named) ∙ ap (λ (d : DataSet). ByStep (Go d replies.Plain)) (sym rebuilt.content_stays) in
            let room_now = room_is b name found named there in
            let kept = subst (λ (o : Option Found). AllKeep b now (elim o as (λ x. Allowances) [ None ↦ stays_all | Some f ↦ reindex_changes b (shape b) f ]) done (owned b (shape b))) (sym named) keeps in
            let does = does_by b name found named there (got_at before (with_index own index) after refl among_now.was) (makes some) in
            search (arith, rules, goes, good_now short, edit.longer, room_now, rebuilt.longest, (taken_new b ps os).1, x.as_many, x.fewest, made_follow, kept, does)

-- ---- an index without nodes stays, and so does every byte

none_makes : (b : List ℕ) (own : VariableShape) → own.index ≡ no_node → MakesIndex b b own own []
unfolding nodes_of leaves_of nodes_at nodes_above
none_makes b own none = record { acts_are = rw none refl; leaves_stay = refl; fewest = rw none refl; filled = rw none no_pyramid; wide = rw none tt; alone = rw none tt; nodes = record { unused = rw none tt; spare = rw none tt }; tail = rw none refl; freed = tt }

-- ---- what a call that makes an index anew comes to

module _ {b now : List ℕ} (found : Found) {before : List VariableShape} {own : VariableShape} {after : List VariableShape} (name : List ℕ) (good : Good b) (among : StandsAmong b found.kind before own after) (at : found.number ≡ length before) (named : variable_named (content b) name ≡ Some found) (short : length now ≤ image_limit) where
  pub reindexed_follows : Reindexed b now own → Follows b (commands.Reindex name) now
  reindexed_follows (inl x) =
      let there = got_at before own after at among.was in
      subst (Follows b (commands.Reindex name)) (sym x.1) (staying_follows b (commands.Reindex name) replies.Plain (ap ByStep (goes_by (content b) name found named)) good (does_by b name found named there there (none_makes b own x.0)))
  reindexed_follows (inr x) = rebuilt_follows good among x.1.built x.1.heads now x.1.given found.variable name (named ∙ ap (λ (n : ℕ). Some (record found { number = n })) at) x.0 short

  pub reindexed_content : Reindexed b now own → content now ≡ content b
  reindexed_content (inl x) = ap content x.1
  reindexed_content (inr x) = x.1.content_stays

  pub reindexed_places : Reindexed b now own → (k : Kind) → vdrs (shapes_of (shape now) k) ≡ vdrs (shapes_of (shape b) k)
  reindexed_places (inl x) k = ap (λ (y : List ℕ). vdrs (shapes_of (shape y) k)) x.1
  reindexed_places (inr x) k = vdrs_stay good among x.1.built x.1.heads now x.1.given k
