-- A leaf more in an index, from the image in which its block was placed: what was done step by step is what a leaf more makes of the image.
use Rattle.cdf_leaves.proofs.Common.{Touched, Way, from_reached, leaf_rest, name_room, rest_among, rest_has, rest_last, rest_once, seven_at_least, touched, AddsLeaf, AreTiles, Begins, Bool, Chained, ChainMade, Changed, Comes, Counts, Distinct, Each, Each-append, Each-map, Edit, EndsIn, Entry, EntryIs, EntryPut, Field, FieldSet, Good, Grew, HasEnd, HasNodes, In, IndexTouch, Inserted, IsAmong, IsWay, Kept, Kind, Leaf, List, MayName, MayPut, Names, NodeFits, NodeMade, NodeTaken, NodeWritten, Nodes, Owed, Placed, PutAlong, SaysEntry, SaysNode, SaysUnused, SplitMade, StandsAmong, Step, StepSays, StepStands, StillSays, TailGoesOn, TailSet, Touch, UnusedEntries, VariableShape, WayStands, Widened, WidenedAlong, [], ap, apart, arith, begins_by, bytes_eq, cases_eq, cases_lt, changed_again, changed_then, changed_wider, comes, each, each_in, entries_beside, entry, entry_past, false, field_set, fits, gdr_type, grew, grew_none, grew_then, has, in_nodes_with_leaf, index_at, inl, inr, is_in-true, is_linkable, kept_then, last_node, le-leb, leaf, leaf_acts, leaves_of, leb, length, length-le_from_distinct, length-map, length_tiles, link_to, linkable-from, linkable_kept, long, lt-leb, made, map, max, nat_tests, new_room, nil_from_length, no_entry, no_node, no_zero, node, node_head, node_stays, nodes_kept, nodes_of, nothing_changed, number, number_kept, placed, places_of, record_number_limit, redo, redone, refl, room_at, rules, same_node, shape, size_at, size_kept, sound, stands, step_pair, subst, suc, sym, tile_lies, top_chain, touch, true, type_at, type_of_body, uir_type, unlike, IsBlockType, used_count, vdr_vxr_head, vdr_vxr_tail, vvr_type, vxr_n_used_entries, vxr_type, vxr_vxr_next, was_unused, way, widen_all, widest, with_block, with_field, with_leaf, zero, ℕ, ◌*◌, ◌++◌, ◌+◌, ◌-◌, ◌<◌, ◌^◌, ◌∙◌, ◌∷◌, ◌≡◌, ◌≢◌, ◌≤◌, ◌⊎◌}
use Rattle.cdf_edits.proofs.Edits.Composing.{head_type}
use Rattle.cdf_format.proofs.NameRules.{bytes_eq-same}
use Rattle.cdf_format.proofs.Tests.{same_of_bytes_eq}
use Rattle.cdf_index.proofs.FirstEntry.{node_there}
use Rattle.cdf_index.proofs.LeafMore.{leaves_more}
use Rattle.cdf_index.proofs.Looking.{none_there}
use Rattle.cdf_index.proofs.NodeGrown.{chained_owed, grown_owed, split_owed}
use Rattle.cdf_index.proofs.NodeSplit.{split}
use Rattle.cdf_index.proofs.NodeWider.{wider_owed}
use Rattle.cdf_leaves.proofs.Along.{one_wider}
use Rattle.cdf_leaves.proofs.NodesMore.{all_once, all_wider, in_new}
use Rattle.cdf_leaves.proofs.Own.{node_fits, node_spares, node_type, now_blocks, now_has, own_node, own_order, searchable, still_begun, vdr_apart, vdr_in, vdr_kept, vdr_used}
use Rattle.cdf_leaves.proofs.PutSteps.{inside_before, may_still}
use Rattle.cdf_leaves.proofs.Spares.{Spares, fits_still, node_inside, spares_kept, spares_linked, spares_then}
use Rattle.cdf_leaves.proofs.SpotNode.{AtSpot, at_spot, first_stays}
use Rattle.cdf_format.specs.RecordTypes.{cvvr_type}
use Rattle.std.specs.Prelude.{◌==◌}
use Rattle.std.proofs.lemmas.Bool.{false_from_ne_true}

-- ---- what counts as unused before

abbrev was : List ℕ → List ℕ → ℕ → ℕ → ℕ → ℕ → ℕ → ℕ → Bool
was b before place need room at m i = was_unused b before (leaf_acts place need room at) m i

was_old : (b before : List ℕ) (place need room at m i : ℕ) → In m before → m ≢ place → (0 < room → m ≢ at) → was b before place need room at m i ≡ leb (used_count b m) i
was_old b before place need zero at m i j p q = grind (arith, nat_tests, is_in-true m before j)
was_old b before place need (suc room) at m i j p q = let out = q (omega arith) in grind (arith, nat_tests, is_in-true m before j, out)

was_new : (b before : List ℕ) (place need room at i : ℕ) → 0 < room → was b before place need room at at i ≡ false
was_new b before place need zero at i some = absurd (omega arith)
was_new b before place need (suc room) at i some = grind (arith, nat_tests)

-- ---- one node

-- it has room for its entries, counts no more than that where all nodes did, and its unused entries are as they have to be
pub record NodeNow (b now nodes : List ℕ) (was : ℕ → Bool) (m : ℕ) : Type 0 where
  pub fits : NodeFits now m
  pub count : Each (Counts b) nodes → Counts now m
  pub spare : (i : ℕ) → used_count now m ≤ i → i < room_at now m → EntryIs b now m i (was i)

entry_still : (b mid now : List ℕ) (m i : ℕ) (w : Bool) → EntryIs b mid m i w → StillSays mid now m i i → EntryIs b now m i w
entry_still b mid now m i true e s = s _ _ _ e
entry_still b mid now m i false e s = s _ _ _ e

node_then : {b mid now nodes : List ℕ} {was : ℕ → Bool} {m : ℕ} → NodeNow b mid nodes was m → Spares mid now m → NodeNow b now nodes was m
node_then {b = b} {mid = mid} {now = now} {was = was} {m = m} n s = record {
  fits = fits_still mid now m s n.fits;
  count = λ c. omega (arith, s.count_is, s.room_is, n.count c);
  spare = λ i le lt. entry_still b mid now m i (was i) (n.spare i (omega (arith, s.used_is)) (omega (arith, s.room_is))) (s.spare i (omega (arith, s.used_is)) (omega (arith, s.room_is)));
}

-- one that was there
old_node : {b nodes : List ℕ} {was : ℕ → Bool} {m : ℕ} → In m nodes → NodeFits b m → ((i : ℕ) → was i ≡ leb (used_count b m) i) → NodeNow b b nodes was m
old_node {b = b} {nodes = nodes} {m = m} j fits is = record {
  fits = fits;
  count = λ c. each_in (Counts b) nodes m c j;
  spare = λ i le lt. rw (is i ∙ le-leb (used_count b m) i le) (record { first_is = refl; last_is = refl; offset_is = refl });
}

-- a new one
new_node : {b mid roomy nodes : List ℕ} {was : ℕ → Bool} {at room next : ℕ} {entries : List Entry} → NodeWritten mid roomy at room next entries → ((i : ℕ) → was i ≡ false) → NodeNow b roomy nodes was at
new_node {roomy = roomy} {at = at} {entries = entries} w is = record {
  fits = (w.inside.entries, w.inside.fits);
  count = λ c. omega (arith, w.count_is, w.used_is, w.inside.fits);
  spare = λ i le lt. rw (is i) (subst (λ (e : Entry). SaysEntry roomy at i e.first e.last e.place) (entry_past entries i (omega (arith, w.used_is))) (w.says i (omega (arith, w.room_is))));
}

-- one that gets an entry, and may give up others
fed_node : {b roomy now nodes : List ℕ} {was : ℕ → Bool} {m k : ℕ} → NodeNow b roomy nodes was m → size_at now m ≡ size_at roomy m → room_at now m ≡ room_at roomy m → used_count now m ≡ suc k → number now m vxr_n_used_entries ≡ suc k → suc k ≤ room_at roomy m
    → ((i : ℕ) → suc k ≤ i → i < room_at roomy m → (SaysUnused now m i × (was i ≡ false)) ⊎ ((used_count roomy m ≤ i) × StillSays roomy now m i i)) → NodeNow b now nodes was m
fed_node {b = b} {roomy = roomy} {now = now} {was = was} {m = m} n size room used count most h = record {
  fits = (omega (arith, n.fits.0), omega arith);
  count = λ c. omega arith;
  spare = λ i le lt. elim (h i (omega arith) (omega arith)) [ inl p ↦ rw p.1 p.0 | inr p ↦ entry_still b roomy now m i (was i) (n.spare i p.0 (omega arith)) p.1 ];
}

-- ---- the leaf may be named

names_leaf : (now records : List ℕ) (l : Leaf) → IsBlockType (type_at now l.place) → (type_at now l.place == cvvr_type) ≡ l.packed → MayName now records l
names_leaf now records l is p = record { no_node = elim is [ inl e ↦ grind (arith, nat_tests, e) | inr e ↦ grind (arith, nat_tests, e) ]; packed_is = p }

-- ---- the image

-- a record that was taken became a node
pub record IsNew (b roomy : List ℕ) (own : VariableShape) (was : ℕ → Bool) (at : ℕ) : Type 0 where
  pub stands : In at (shape roomy).records
  pub linkable : is_linkable roomy (shape roomy).records vxr_type at ≡ true
  pub outside : In at (nodes_of own.index) → ⊥
  pub apart : at ≢ own.vdr
  pub now : NodeNow b roomy (nodes_of own.index) was at

-- All records were taken that a leaf needs.
pub record Roomy (b filled roomy : List ℕ) (own : VariableShape) (new at : ℕ) (was : ℕ → Bool) : Type 0 where
  pub on : Grew filled roomy
  pub node : NodeTaken filled roomy new at
  pub fresh : 0 < new → IsNew b roomy own was at

-- They were, and since then bytes of nodes of the index alone were written; all of these but one stay behind their used entries.
pub record State (b filled now : List ℕ) (own : VariableShape) (new at : ℕ) (was : ℕ → ℕ → Bool) (every : List ℕ) (x : ℕ) (tree : Nodes) : Type 0 where
  pub roomy : List ℕ
  pub taken : Roomy b filled roomy own new at (was at)
  pub as_long : length now ≡ length roomy
  pub tiled : AreTiles now 8 (length now) (shape roomy).records
  pub touches : List Touch
  pub changed : Changed roomy now touches
  pub within : Each (IndexTouch roomy own new at) touches
  pub vdr : Kept b now own.vdr
  pub has : HasNodes now (shape roomy).records 8 tree
  pub each : (m : ℕ) → In m every → NodeNow b now (nodes_of own.index) (was m) m
  pub others : (m : ℕ) → In m (nodes_of own.index) → m ≢ x → Spares b now m

-- a tree that has such nodes, each once, and blocks among these records
pub record Fitting (records every : List ℕ) (tree : Nodes) : Type 0 where
  pub once : Distinct (nodes_of tree)
  pub among : (m : ℕ) → In m (nodes_of tree) → In m every
  pub blocks : (m : ℕ) → In m (places_of (leaves_of tree)) → In m records

module _ {b : List ℕ} {kind : Kind} {before : List VariableShape} {own : VariableShape} {after : List VariableShape} (good : Good b) (stood : StandsAmong b kind before own after) {filled body : List ℕ} {place : ℕ} (block : Placed b filled body place) (type_is : IsBlockType (type_of_body body)) (first last at : ℕ) where
  abbrev l : Leaf
  l = leaf first last place (type_of_body body == cvvr_type)

  abbrev new : ℕ
  new = new_room first own.index

  abbrev nodes : List ℕ
  nodes = nodes_of own.index

  abbrev after_leaf : Nodes
  after_leaf = with_leaf l at own.index

  abbrev every : List ℕ
  every = nodes_of after_leaf

  abbrev spare : ℕ → ℕ → Bool
  spare = was b nodes place (8 + length body) new at

  abbrev Now : List ℕ → ℕ → Nodes → Type 0
  Now now x tree = State b filled now own new at spare every x tree

  late : Grew b filled
  late = grew (sound good stood) block.fills

  spare_old : (m i : ℕ) → In m nodes → (0 < new → m ≢ at) → spare m i ≡ leb (used_count b m) i
  spare_old m i j apart_new = let n = own_node good stood m j in was_old b nodes place (8 + length body) new at m i j (unlike (sound good stood) block.fills m n.0 (λ u. apart vxr_type uir_type refl (sym n.1 ∙ u))) apart_new

  -- ---- a node was made of a record, or none was needed

  made_roomy : {roomy : List ℕ} {room next : ℕ} {entries : List Entry} → NodeMade filled roomy room next entries at → new ≡ room → 0 < room → Roomy b filled roomy own new at (spare at)
  made_roomy {roomy = roomy} {room = room} w is some = record {
    on = grew late.sound w.fills;
    node = taken new is;
    fresh = λ s. record {
      stands = stands late.sound w.fills;
      linkable = linkable-from roomy (shape roomy).records vxr_type at (stands late.sound w.fills) w.fills.typed (omega (arith, w.written.inside.entries));
      outside = λ i. unlike late.sound w.fills at (late.sub at (own_node good stood at i).0) (λ u. apart vxr_type uir_type refl (sym (node_type good stood late at i) ∙ u)) refl;
      apart = λ q. unlike late.sound w.fills own.vdr (vdr_in good stood late) (vdr_used good stood late) (sym q);
      now = new_node w.written (λ i. was_new b nodes place (8 + length body) new at i s);
    };
  }
    where
      taken : (n : ℕ) → n ≡ room → NodeTaken filled roomy n at
      taken zero e = absurd (omega arith)
      taken (suc n) e = rw e (record { taken = w.taken; fills = w.fills; longest = w.longest })

  no_roomy : new ≡ 0 → at ≡ 0 → Roomy b filled filled own new at (spare at)
  no_roomy none z = record { on = grew_none filled late.sound; node = rw none (refl, z); fresh = λ s. absurd (omega arith) }

  module _ {roomy : List ℕ} (r : Roomy b filled roomy own new at (spare at)) where
    abbrev records : List ℕ
    records = (shape roomy).records

    g : Grew b roomy
    g = grew_then late r.on

    old : (m : ℕ) → In m nodes → NodeNow b roomy nodes (spare m) m
    old m j = node_then (old_node j (node_fits good stood m j) (λ i. spare_old m i j (λ s e. (r.fresh s).outside (rw e at j)))) (node_spares good stood g m j)

    start : (m : ℕ) → In m every → In m records × (m ≢ own.vdr) × NodeNow b roomy nodes (spare m) m
    start m i = elim (in_nodes_with_leaf l at own.index m i) [ inl j ↦ (let n = own_node good stood m j in (g.sub m n.0, vdr_apart good stood m n.1, old m j)) | inr p ↦ (let f = r.fresh p.1 in rw p.0 (f.stands, f.apart, f.now)) ]

    block_there : In place records
    block_there = r.on.sub place (stands (sound good stood) block.fills)

    block_is : type_at roomy place ≡ type_of_body body
    block_is = let typed = block.fills.typed in head_type filled roomy place (r.on.head place (stands (sound good stood) block.fills) (λ u. elim type_is [ inl e ↦ apart vvr_type uir_type refl (sym (typed ∙ e) ∙ u) | inr e ↦ apart cvvr_type uir_type refl (sym (typed ∙ e) ∙ u) ])) ∙ typed

    names_then : {now : List ℕ} → type_at now place ≡ type_at roomy place → MayName now records l
    names_then {now = now} same = let is = same ∙ block_is in names_leaf now records l (subst IsBlockType (sym is) type_is) (ap (λ (n : ℕ). n == cvvr_type) is)

    fitting : Fitting records every after_leaf
    fitting = record {
      once = all_once own.index l at (has good stood).indexed.once (λ s. (r.fresh s).outside);
      among = λ m i. i;
      blocks = λ m i. elim (in_new l m (leaves_of own.index) (subst (In m) (ap places_of (leaves_more l at 0 record_number_limit own.index (own_order good stood))) i)) [ inl e ↦ rw e block_there | inr j ↦ now_blocks good stood g m j ];
    }

    abbrev begin : (x : ℕ) {tree : Nodes} → HasNodes roomy records 8 tree → Now roomy x tree
    begin x h = record { roomy = roomy; taken = r; as_long = refl; tiled = g.sound.has_shape.tiled; touches = []; changed = nothing_changed; within = tt; vdr = vdr_kept good stood g; has = h; each = λ m i. (start m i).2; others = λ m i ne. node_spares good stood g m i }

  -- ---- bytes of one node were written

  node_step : {mid now : List ℕ} {x : ℕ} {tree : Nodes} {edit : Edit} (s : Now mid x tree) → Fitting (records s.taken) every tree → (y from n : ℕ) → In y nodes → 12 ≤ from → from + n ≤ 28 + 16 * room_at s.roomy y → from + n ≤ size_at mid y → Changed mid now (touch y from n ∷ []) → length now ≡ length mid
      → (Touched mid now (records s.taken) y → Owed mid now (records s.taken) (records s.taken) y edit) → (Touched mid now (records s.taken) y → NodeNow b now nodes (spare y) y) → (y ≢ x → Spares mid now y) → Now now x (redo y edit tree)
  node_step {mid = mid} {now = now} {tree = tree} {edit = edit} s f y from n i later fit inside changed as_long owed here spares =
      let r = s.taken in
      let t = touched s.tiled ((g r).sub y (own_node good stood y i).0) later inside changed as_long in
      let kept = λ (m : ℕ) (j : In m every) (ne : m ≢ y). spares_kept mid now m (t.others m (start r m j).0 ne) (s.each m j).fits in
      record {
        roomy = s.roomy;
        taken = r;
        as_long = as_long ∙ s.as_long;
        tiled = t.tiled;
        touches = s.touches ++ touch y from n ∷ [];
        changed = changed_then s.roomy mid now s.touches (touch y from n ∷ []) s.changed changed;
        within = Each-append (IndexTouch s.roomy own new at) s.touches (touch y from n ∷ []) s.within (inr (later, inl (i, fit)), tt);
        vdr = kept_then b mid now own.vdr s.vdr (t.others own.vdr (vdr_in good stood (g r)) (λ q. vdr_apart good stood y (own_node good stood y i).1 (sym q)));
        has = redone mid now (records r) (records r) t.heads y edit (owed t) 8 tree s.has f.once (λ m j ne. (t.others m (start r m (f.among m j)).0 ne, (s.each m (f.among m j)).fits)) f.blocks;
        each = λ m j. elim (cases_eq m y) [ inl e ↦ rw e (here t) | inr ne ↦ node_then (s.each m j) (kept m j ne) ];
        others = λ m j ne. spares_then b mid now m (s.others m j ne) (elim (cases_eq m y) [ inl e ↦ rw e (spares (λ q. ne (e ∙ q))) | inr out ↦ kept m (node_stays l at own.index m j) out ]);
      }

  -- ---- then the descriptor was written, or not

  leaf_added : {wide now : List ℕ} {x : ℕ} → Now wide x after_leaf → Changed wide now (touch own.vdr 28 16 ∷ []) → length now ≡ length wide → number now own.vdr vdr_vxr_head ≡ link_to after_leaf → TailGoesOn b now own.vdr own.index after_leaf → AddsLeaf b now own first last body
  leaf_added {wide = wide} {now = now} st changed as_long head tail =
      let r = st.taken in
      let f = fitting r in
      let t = touched st.tiled (vdr_in good stood (g r)) (omega arith) (omega (arith, long good stood, size_kept b wide own.vdr st.vdr.same (omega (arith, long good stood)))) changed as_long in
      let stay = λ (m : ℕ) (i : In m every). t.others m (start r m i).0 (start r m i).1 in
      let node_now : (m : ℕ) → In m every → NodeNow b now nodes (spare m) m = λ m i. node_then (st.each m i) (spares_kept wide now m (stay m i) (st.each m i).fits) in
      record {
        place = place;
        at = at;
        added = record {
          filled = filled;
          block = block;
          roomy = st.roomy;
          node = r.node;
          touches = st.touches ++ touch own.vdr 28 16 ∷ [];
          changed = changed_then st.roomy wide now st.touches (touch own.vdr 28 16 ∷ []) st.changed changed;
          within = Each-append (IndexTouch st.roomy own new at) st.touches (touch own.vdr 28 16 ∷ []) st.within (inl (refl, omega arith, omega arith), tt);
          as_long = as_long ∙ st.as_long;
          index = record { link_is = head; has_nodes = nodes_kept wide now (records r) (records r) t.heads 8 after_leaf st.has stay (λ m i. (st.each m i).fits) f.blocks; once = f.once };
          fits = each (NodeFits now) every (λ m i. (node_now m i).fits);
          counts = λ c. each (Counts now) every (λ m i. (node_now m i).count c);
          tail = tail;
          unused = each (UnusedEntries b now (own.index ∷ []) nodes (leaf_acts place (8 + length body) new at)) every (λ m i j le lt. inl ((node_now m i).spare j le lt));
        };
      }

  -- ---- the index had no node: its first one is taken, and the descriptor leads to it

  pub first_added : {roomy now : List ℕ} → number b own.vdr vdr_vxr_head ≡ 0 → NodeMade filled roomy 7 0 (entry first last place ∷ []) at → now ≡ with_field (with_field roomy own.vdr vdr_vxr_head at) own.vdr vdr_vxr_tail at → at < 256 ^ 8 → AddsLeaf b now own first last body
  unfolding with_leaf new_room HasNodes Names
  first_added {roomy = roomy} {now = now} none made linked small =
      let v = own.vdr in
      let w = made.written in
      let s = searchable good stood in
      let empty : own.index ≡ no_node = sym s.1 ∙ none_there b 8 (index_at b (number b v vdr_vxr_head)) s.0.tiled s.0.index.has_nodes (sym s.0.index.link_is ∙ none) in
      let one : after_leaf ≡ node at 7 (with_block l no_entry) no_node = ap (with_leaf l at) empty in
      let seven : new ≡ 7 = ap (new_room first) empty in
      let r = made_roomy made seven (omega arith) in
      let lies : v + 340 ≤ length roomy = omega (arith, name_room good stood, (g r).longer) in
      let head : FieldSet roomy (with_field roomy v vdr_vxr_head at) v vdr_vxr_head at = field_set (omega arith) refl in
      let tail : FieldSet (with_field roomy v vdr_vxr_head at) now v vdr_vxr_tail at = field_set (omega (arith, head.as_long)) linked in
      let says : SaysNode roomy (records r) at 7 (with_block l no_entry) no_node = record { linkable = (r.fresh (omega arith)).linkable; next_is = w.next_is; room_is = w.room_is; used_is = w.used_is; say_entries = (w.says 0 (omega arith), tt) } in
      let names = names_then r refl in
      leaf_added (begin r 0 (rw one (says, (names.no_node, names.packed_is, tt), tt))) (changed_again (changed_wider 28 16 head.changed (omega arith) (omega arith)) head.as_long (changed_wider 28 16 tail.changed (omega arith) (omega arith))) (tail.as_long ∙ head.as_long)
      (tail.past (v + 28) 8 (inl (omega arith)) ∙ head.reads small ∙ sym (ap link_to one)) (rw (one, empty) (tail.reads small))

  -- ---- the way was found

  module _ {found : Way} (w : IsWay b (number b own.vdr vdr_vxr_head) first found) where
    abbrev x : ℕ
    x = found.end.place

    index : index_at b (number b own.vdr vdr_vxr_head) ≡ own.index
    index = (searchable good stood).1

    x_in : In x nodes
    x_in = rw index at w.last

    x_some : x ≢ 0
    x_some z = no_zero b (shape b).records 8 own.index (sound good stood).has_shape.tiled (has good stood).indexed.has_nodes (rw z at x_in)

    way_is : map step_pair found.steps.items ≡ way first own.index
    way_is = rw index at w.steps_are

    coming : Comes l at (way first own.index) x new own.index after_leaf
    coming = rw (rw index at w.end_is) (comes l at 0 record_number_limit own.index (own_order good stood))

    there : AtSpot b l (way first own.index) x new own.index after_leaf
    there = at_spot coming x_some b (shape b).records 8 (has good stood).indexed.has_nodes (has good stood).indexed.once

    may_before : MayPut b found.end
    may_before = let n = own_node good stood x x_in in search (rules, sound good stood, n.0, n.1, node_fits good stood x x_in, w.sees.room_is, w.sees.used_is, w.sees.next_is, rw (← w.sees.used_is) at w.sees.begun.most)

    pub may_put : MayPut filled found.end
    may_put = may_still may_before late

    pub wide_enough : max 7 found.end.room ≤ widest (index_at b (number b own.vdr vdr_vxr_head))
    wide_enough = rw index (omega (arith, w.sees.room_is, seven_at_least own.index, there.within))

    -- what a leaf more makes of this node alone
    abbrev put_tree : Nodes
    put_tree = redo x (placed l at x) own.index

    -- ---- the entry was put, from an image in which all records were taken

    module _ {roomy : List ℕ} (r : Roomy b filled roomy own new at (spare at)) where
      seen : MayPut roomy found.end
      seen = may_still may_put r.on

      x_lies : x + 28 ≤ length roomy
      x_lies = node_head (inside_before seen)

      begins : Begins roomy x first found.end.begun
      begins = begins_by roomy x first found.end.begun (still_begun good stood (g r) w.sees.begun x_in)

      node_put : {grown : List ℕ} (from n : ℕ) → 12 ≤ from → from + n ≤ 28 + 16 * room_at roomy x → Changed roomy grown (touch x from n ∷ []) → length grown ≡ length roomy
          → (Touched roomy grown (records r) x → MayName grown (records r) l → (0 < new → Kept roomy grown at × (is_linkable grown (records r) vxr_type at ≡ true)) → Owed roomy grown (records r) (records r) x (placed l at x)) → (Touched roomy grown (records r) x → NodeNow b grown nodes (spare x) x) → Now grown x put_tree
      node_put {grown = grown} from n later fit changed as_long owed here =
          node_step (begin r x (now_has good stood (g r)).indexed.has_nodes) (record { once = (has good stood).indexed.once; among = node_stays l at own.index; blocks = now_blocks good stood (g r) }) x from n x_in later fit (omega (arith, seen.fits.0)) changed as_long
          (λ t. owed t (names_then r (t.heads.types place (block_there r))) (λ s. let f = r.fresh s in (t.others at f.stands (λ e. f.outside (rw e x_in)), linkable_kept roomy grown (records r) (records r) t.heads vxr_type at f.linkable))) here (λ ne. absurd (ne refl))

    -- the node has room
    with_room : {grown : List ℕ} → found.end.used < found.end.room → at ≡ 0 → Inserted filled grown x found.end.used found.end.begun first last place → Now grown x put_tree
    with_room {grown = grown} lt z ins =
        let r = no_roomy (there.has_room (omega (arith, w.sees.used_is, w.sees.room_is))) z in
        let less : found.end.used < room_at filled x = omega (arith, (seen r).room_is) in
        node_put r 24 (4 + 16 * room_at filled x) (omega arith) (omega arith) ins.changed ins.as_long (λ t names fresh. grown_owed filled grown (records r) (records r) t.heads x at found.end.used found.end.begun l (seen r).used_is (begins r) names less ins (x_lies r))
        (λ t. fed_node (old r x x_in) (t.heads.sizes x (seen r).there) ins.room_stays ins.used_is ins.count_is (omega arith) (λ i le lt. inr (omega (arith, (seen r).used_is), ins.unused i (omega arith) lt)))

    full : found.end.room ≤ found.end.used → new ≡ max 7 (found.end.used - found.end.begun)
    full le = rw w.sees.used_is (there.is_full (omega (arith, w.sees.used_is, w.sees.room_is)) found.end.begun w.sees.begun)

    -- it is full, and some of its entries went to a new node
    with_split : {grown : List ℕ} → found.end.room ≤ found.end.used → found.end.begun < found.end.used → SplitMade filled grown found.end (entry first last place) at → Now grown x put_tree
    with_split {grown = grown} le lt sp =
        let roomy = sp.roomy in
        let sh = sp.shortened in
        let m = may_put in
        let r = made_roomy sp.made (full le) (omega arith) in
        let kept = r.on.kept x m.there (λ u. apart vxr_type uir_type refl (sym m.typed ∙ u)) (λ u. apart vxr_type gdr_type refl (sym m.typed ∙ u)) in
        node_put r 12 (16 + 16 * room_at roomy x) (omega arith) (omega arith) sh.changed sh.as_long
        (λ t names fresh. (let link = fresh (omega (arith, full le)) in
        split_owed roomy grown (records r) (records r) t.heads x at found.end.used found.end.begun l (seen r).used_is (begins r) names (omega (arith, (seen r).room_is)) link.1
        (split sp.made.taken filled roomy grown x at (max 7 (found.end.used - found.end.begun)) found.end.next found.end.used found.end.begun first last place sp.behind kept link.0 m.fits (omega (arith, m.used_is, m.fits.1)) (omega arith) sp.made.written sp.read m.next_is refl sh) lt))
        (λ t. fed_node (old r x x_in) (t.heads.sizes x (seen r).there) sh.room_stays sh.used_is sh.count_is (omega (arith, (seen r).used_is, (seen r).fits.1)) (λ i above below. elim (cases_lt i found.end.used) [
          | inl less ↦ inl (sh.gone i above less, spare_old x i x_in (λ n e. (r.fresh n).outside (rw (← e) x_in)) ∙ lt-leb (used_count b x) i (omega (arith, w.sees.used_is)))
          | inr more ↦ inr (omega (arith, (seen r).used_is), sh.unused i more below)
        ]))

    -- it is full, and the new node has the entry alone
    with_chain : {grown : List ℕ} → found.end.room ≤ found.end.used → found.end.used ≤ found.end.begun → ChainMade filled grown found.end (entry first last place) at → Now grown x put_tree
    with_chain {grown = grown} le ge ch =
        let roomy = ch.roomy in
        let node = ch.made.written in
        let most = w.sees.begun.most in
        let seven : new ≡ 7 = omega (arith, full le) in
        let r = made_roomy ch.made seven (omega arith) in
        let set : FieldSet roomy grown x vxr_vxr_next at = field_set (let l = x_lies r in omega arith) ch.linked in
        let stays = spares_linked set in
        node_put r 12 8 (omega arith) (omega arith) set.changed set.as_long
        (λ t names fresh. (let link = fresh (omega arith) in
        let n = same_node roomy grown at link.0 (node.inside.entries, node.inside.fits) in
        let stay : (j : ℕ) → j < found.end.used → StillSays roomy grown x j j = λ j less. entries_beside set (omega arith) (omega arith) (inl (omega arith)) j in
        let here = n.entries 0 (omega (arith, node.room_is)) first last place (node.says 0 (omega arith)) in
        let new_next = n.next_is ∙ node.next_is ∙ (seen r).next_is in
        let chained : Chained roomy grown x at found.end.used first last place = search (rules, stay, stays.room_is, stays.used_is ∙ sym (seen r).used_is, set.reads ch.small, here, n.room_is ∙ node.room_is, n.used_is ∙ node.used_is, new_next) in
        chained_owed roomy grown (records r) (records r) t.heads x at found.end.used found.end.begun l (seen r).used_is (begins r) names (omega (arith, (seen r).room_is)) link.1 chained (omega (arith, w.sees.used_is)))) (λ t. node_then (old r x x_in) stays)

    put_now : {grown : List ℕ} → EntryPut filled grown found.end (entry first last place) at → Now grown x put_tree
    put_now put = elim put [ inl p ↦ with_room p.0 p.1 p.2 | inr q ↦ elim q.1 [ inl s ↦ with_split q.0 s.0 s.1 | inr c ↦ with_chain q.0 c.0 c.1 ] ]

    -- ---- the nodes on the way

    abbrev OnWay : Step → Type 0
    OnWay step = In step.place nodes × (step.place ≢ x) × StepSays b step

    all_steps : (steps : List Step) → Each (IsAmong own.index) steps → Each (StepSays b) steps → Each (λ (step : ℕ × ℕ). step.0 ≢ x) (map step_pair steps) → Each OnWay steps
    all_steps [] a s n = tt
    all_steps (step ∷ more) a s n = ((a.0, n.0, s.0), all_steps more a.1 s.1 n.1)

    on_way : Each OnWay found.steps.items
    on_way = all_steps found.steps.items (rw index at w.among) w.say (rw (← way_is) at there.apart)

    step_stands : {mid : List ℕ} {tree : Nodes} (s : Now mid x tree) (step : Step) → OnWay step → StepStands mid (records s.taken) step
    step_stands {mid = mid} s step o =
        let q = s.others step.place o.0 o.1 in
        record { there = (g s.taken).sub step.place (own_node good stood step.place o.0).0; fits = fits_still b mid step.place q (node_fits good stood step.place o.0); room_is = o.2.room_is ∙ sym q.room_is; within = omega (arith, q.used_is, o.2.within) }

    pub way_ready : {grown : List ℕ} → EntryPut filled grown found.end (entry first last place) at → WayStands grown found.steps.items
    way_ready {grown = grown} put = let s = put_now put in record { records = records s.taken; tiled = s.tiled; stand = Each-map OnWay (StepStands grown (records s.taken)) (step_stands s) found.steps.items on_way }

    law : widen_all last (way first own.index) put_tree ≡ after_leaf
    law = made coming x_some (has good stood).indexed.once

    widening_fits : {roomy : List ℕ} (r : Roomy b filled roomy own new at (spare at)) (more : List (ℕ × ℕ)) → Fitting (records r) every (widen_all last more put_tree)
    widening_fits r more =
        let all = all_wider last (way first own.index) put_tree in
        let some = all_wider last more put_tree in
        let nodes_are = some.0 ∙ sym all.0 ∙ ap nodes_of law in
        let places_are = some.1 ∙ sym all.1 ∙ ap (λ (n : Nodes). places_of (leaves_of n)) law in
        record { once = rw nodes_are (fitting r).once; among = λ m i. subst (In m) nodes_are i; blocks = λ m i. (fitting r).blocks m (subst (In m) places_are i) }

    widen : {grown : List ℕ} → Now grown x put_tree → (steps : List Step) → {wide : List ℕ} → Each OnWay steps → WidenedAlong grown wide last (map step_pair steps) → Now wide x (widen_all last (map step_pair steps) put_tree)
    widen s [] e v = rw v s
    widen s (step ∷ more) {wide = wide} e v =
        let mid = v.0 in
        let y = step.place in
        let write : Widened mid wide y step.entry last = v.1.1 in
        let t = widen s more e.1 v.1.0 in
        let recs = records t.taken in
        let h = step_stands t step e.0 in
        let still = (one_wider t.tiled h.there h.fits h.within write).still y h.there h.fits in
        node_step t (widening_fits t.taken (map step_pair more)) y 28 (16 * room_at mid y) e.0.0 (omega arith) (omega (arith, (t.others y e.0.0 e.0.1).room_is, (node_spares good stood (g t.taken) y e.0.0).room_is)) h.fits.0 write.changed write.as_long
        (λ q. wider_owed mid wide recs recs q.heads y step.entry last write h.fits.1 (node_head (node_inside mid recs y t.tiled h.there h.fits))) (λ q. node_then (t.each y (node_stays l at own.index y e.0.0)) still) (λ ne. still)

    -- ---- they were widened

    module _ {wide : List ℕ} (a : PutAlong filled wide found (entry first last place) at) where
      state : Now wide x after_leaf
      state = subst (Now wide x) (rw way_is law) (widen (put_now a.put) found.steps.items on_way a.widened)

      link_is : number b own.vdr vdr_vxr_head ≡ link_to after_leaf
      link_is = (has good stood).indexed.link_is ∙ sym there.link_is

      -- a field of the descriptor
      vdr_field : (f : Field) → f.place + f.width ≤ 340 → number wide own.vdr f ≡ number b own.vdr f
      vdr_field f le = number_kept b wide own.vdr state.vdr.same f (omega (arith, long good stood))

      pub vdr_lies : own.vdr + 44 ≤ length wide
      vdr_lies = omega (arith, name_room good stood, (g state.taken).longer, state.as_long)

      no_way : found.steps.items ≡ [] → way first own.index ≡ []
      no_way none = sym way_is ∙ ap (map step_pair) none

      ends : found.steps.items ≡ [] → EndsIn wide (length wide) x (last_node after_leaf)
      ends none =
          let recs = records state.taken in
          let before = from_reached first own.index in
          let at_x : x ≡ link_to before = there.starts (no_way none) in
          let f = first_stays l at before (node_there before (λ z. x_some (at_x ∙ z))) in
          let rest = leaf_rest l at own.index in
          let few = length-le_from_distinct (nodes_of (with_leaf l at before)) recs (rest_once rest (fitting state.taken).once) (λ m i. (start state.taken m (rest_among rest m i)).0) in
          record { tiles = recs; levels = 8; nodes = with_leaf l at before; tiled = state.tiled; has = rest_has wide recs 8 rest state.has; is_node = f.1; link_is = at_x ∙ sym f.0; last_is = rest_last rest f.1; few = omega (arith, few, length_tiles wide 8 (length wide) recs state.tiled) }

      pub tail_ready : found.steps.items ≡ [] → HasEnd wide x
      tail_ready none = (last_node after_leaf, ends none)

      pub grown_stays : (at ≡ 0) ⊎ (found.steps.items ≢ []) → AddsLeaf b wide own first last body
      grown_stays why =
          let r = state.taken in
          let none : at ≡ 0 → new ≡ 0 = λ z. elim (cases_lt 0 new) [ inl s ↦ absurd (omega (arith, (tile_lies state.roomy 8 (length state.roomy) (records r) at (g r).sound.has_shape.tiled (r.fresh s).stands).low)) | inr le ↦ omega arith ] in
          let same = there.stays (elim why [ inl z ↦ inl (none z) | inr ne ↦ inr (λ z. ne (nil_from_length found.steps.items (simp length-map at (ap length (way_is ∙ z))))) ]) in
          let test : bytes_eq (top_chain own.index) (top_chain after_leaf) ≡ true = ap (bytes_eq (top_chain own.index)) same ∙ bytes_eq-same (top_chain own.index) in
          leaf_added state nothing_changed refl (vdr_field vdr_vxr_head (omega arith) ∙ link_is) (rw test (vdr_field vdr_vxr_tail (omega arith)))

      pub grown_tail : {now : List ℕ} → at ≢ 0 → found.steps.items ≡ [] → TailSet wide now own.vdr x → AddsLeaf b now own first last body
      grown_tail {now = now} ne none it =
          let end = it.ends.is (last_node after_leaf) (ends none) in
          let set = field_set {b = wide} {at = own.vdr} {f = vdr_vxr_tail} (omega (arith, vdr_lies)) it.written in
          let grows = there.grows (no_way none) (λ z. ne (rw z at state.taken.node).1) in
          let longer = false_from_ne_true (bytes_eq (top_chain own.index) (top_chain after_leaf)) (λ t. absurd (omega (arith, grows, ap (λ (xs : List ℕ). length xs) (same_of_bytes_eq (top_chain own.index) (top_chain after_leaf) t)))) in
          leaf_added state (changed_wider 28 16 set.changed (omega arith) (omega arith)) set.as_long (set.past (own.vdr + 28) 8 (inl (omega arith)) ∙ vdr_field vdr_vxr_head (omega arith) ∙ link_is) (rw longer (set.reads it.small ∙ end))
