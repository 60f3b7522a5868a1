-- A leaf that is added, as one edit: its block is taken and written, then a node where one is needed, and then the entries are. It leads from one good image to another.
use Rattle.cdf_puts.proofs.Common.{AddsLeaf, Bool, leaf, same_node, acts_still_by, is_block, nodes_rows, used_rows, leaf_rows, index_rows, end_of, NodeTouch, Away, rules, Act, Avoids-append, Away-append, BlocksGoOn, Counts, Each, Each-map, Edit, Entries, Exchanged, FileSame, GoesOn, Good, Hold, Hold-split, In, In-append, In-append_left, In-append_right, IndexTests, IndexTouch, IsBlockBody, IsChain, IsOneOf, IsSound, IsVacant, Kept, Kind, Leaf, LeafAdded, List, Mark, Marked, Misses, NewIndex, NodeStands, NodeTaken, Nodes, Only, R, Same, Same-part, Shape, StandsAmong, Touch, VariableShape, Within-append, Z, [], all_unmarked-away, ap, apart, append-nil, arith, avoided, away-avoids, away-within, before_limit, behind_in, block, block_behind, chain_stays, changed_edit, count_is, drop, drop-drop, drop-take, each, each_of, edit_then, eof, false, field, file_same, firsts_of, flat_map, gdr_eof, gdr_field, gdr_in, gdr_type, gdr_typed, gdr_uir_head, good_is_sound, has, head_size, head_type, if◌then◌else◌, image_limit, in_nodes_with_leaf, index_marks, index_rules, order_with_leaf, index_unmarked, inl, inr, is_in-false, is_taken_at, keeps_away, keeps_fields, keeps_file, keeps_within, kept, kept_away, leaf_acts, leaves_of, length, linkable-in, linkable-type, long, lower, lower_nodes, max, max_rec_kept, negsuc, new_room, no_entry, no_node, node, node_acts, node_behind, node_room, node_stays, nodes_of, nodes_with_leaf, number, number_before, of_le, own_rules, piece_kept, place_in, placed_grows, pos, r_max_rec, r_max_rec_field, record_alike, record_bytes, record_number_limit, refl, room_at, same-then, shape, size_at, size_kept, some_bytes, space_fields, subst, suc, sym, take, take-take, the_one, tile, tile_lies, times, times-append, true, type_at, type_in, type_kept, type_of_body, typed, uir_type, unmarked-away, variable_types, variables_chain, vdr_alike, vdr_max_rec, vdr_of_variable, vvr_type, vxr_bytes, vxr_type, with_leaf, with_sign, word, zero, ℕ, ℤ, ◌*◌, ◌++◌, ◌+◌, ◌-◌, ◌<◌, ◌==◌, ◌∙◌, ◌∷◌, ◌≡◌, ◌≢◌, ◌≤◌, taken_places, is_in-true, get_or-drop, get_or-take, places_of, leaves_more, nat_tests, Covered, ◌⊎◌, is_record_type, fixed_size, byte, node_fits, own_node, own_order, is_compressed}
use Rattle.cdf_edits.proofs.Edits.MadeRecord.{place_in as placed_in, filled_size}
use Rattle.cdf_edits.proofs.Edits.TakenAll.{TakenAll, none_taken, taken_then, taking_all, listed_free, unlisted_away}
use Rattle.cdf_puts.proofs.LeafCounts.{room_stays, one_of_leaves, places_new}
use Rattle.cdf_puts.proofs.RaisedGoes.{behind_no_vdr}
use Rattle.cdf_edits.proofs.Edits.Composing.{part as changed_missed}
use Rattle.cdf_format.proofs.Pieces.{word_of_piece_lem}
use Rattle.cdf_format.specs.RecordTypes.{cvvr_type}
use Rattle.cdf_puts.proofs.PutNodes.{NodesStep}
use Rattle.cdf_index.proofs.NewIndex.{good_now as changed_good, block_kept, index_edit, own_edit}
use Rattle.cdf_puts.proofs.GoesThen.{goes_by, links}
use Rattle.cdf_edits.proofs.Edits.OwnEdited as of_own
use Rattle.cdf_puts.proofs.PutBytes.{put_there, whole}

-- ---- marks

abbrev pub new_nodes : ℕ → ℕ → List ℕ
new_nodes room at = taken_places (node_acts room at)

-- nodes are written from the link to the next one on: which records the marks leave by their types alone
leaf_tests : (kind : Kind) (v : ℕ) (unused places nodes : List ℕ) (enough most : ℕ) → IndexTests kind (r_max_rec_field kind ++ space_fields) (taking_all unused places enough ++ index_marks kind v nodes (field 12 most))
leaf_tests R v unused places nodes enough most = search rules
leaf_tests Z v unused places nodes enough most = search rules

entries_clear : (kind : Kind) (v : ℕ) (nodes : List ℕ) (most : ℕ) → (keeps_file (index_marks kind v nodes (field 12 most)) ≡ true) × (avoided (index_marks kind v nodes (field 12 most)) gdr_type 36 44 ≡ true) × (avoided (index_marks kind v nodes (field 12 most)) gdr_type 64 72 ≡ true)
entries_clear R v nodes most = (refl, refl, refl)
entries_clear Z v nodes most = (refl, refl, refl)

-- ---- a node is taken, or nothing is done

node_takes : {b now : List ℕ} {enough : ℕ} (room at : ℕ) → IsSound b (shape b) → eof b (shape b).gdr ≡ length b → NodeTaken b now room at → vxr_bytes room ≤ enough → TakenAll b now (node_acts room at) (new_nodes room at) enough
node_takes {b = b} {enough = enough} zero at sound end taken few = subst (λ (x : List ℕ). TakenAll b x [] [] enough) (sym taken.0) (none_taken sound end)
node_takes (suc room) at sound end taken few = let g = placed_grows sound taken.fills in taken_then sound taken.fills few (none_taken g.sound g.end_is)

node_stands : {b now : List ℕ} (room at m : ℕ) → IsSound b (shape b) → NodeTaken b now room at → In m (new_nodes room at) → NodeStands now room m
node_stands zero at m sound taken i = absurd i
node_stands {now = now} (suc room) at m sound taken i = subst (NodeStands now (suc room)) (sym (the_one at m i)) (record { inside = placed_in sound taken.fills; typed = taken.fills.typed; size_is = filled_size sound taken.fills })

is_new_node : (room at : ℕ) → 0 < room → In at (new_nodes room at)
is_new_node room at some = grind (arith, some)

pub node_taken : (place need room at : ℕ) → 1 ≤ room → is_taken_at (leaf_acts place need room at) at ≡ true
node_taken place need room at some = is_in-true at (place ∷ new_nodes room at) (inr (is_new_node room at some))

-- how often it stands in a variable
new_times : (room at m : ℕ) → times m (new_nodes room at) ≡ (if room == 0 then 0 else times m (at ∷ []))
new_times room at m = grind arith

-- ---- the bytes of a block that is not packed

pub plain_body : (body records : List ℕ) → IsBlockBody body records → type_of_body body ≡ vvr_type
plain_body body records says = sym (word_of_piece_lem body 0 4) ∙ ap (λ (xs : List ℕ). word xs 0 4) says.type_is

-- the leaf of such a block
pub plain_leaf : {b now : List ℕ} {own : VariableShape} {first last : ℕ} {body records : List ℕ} (adds : AddsLeaf b now own first last body) → IsBlockBody body records → LeafAdded b now own (leaf first last adds.place false) body adds.at
plain_leaf {b = b} {now = now} {own = own} {first = first} {last = last} {body = body} {records = records} adds says =
    subst (λ (packed : Bool). LeafAdded b now own (leaf first last adds.place packed) body adds.at) (ap (λ (type : ℕ). type == cvvr_type) (plain_body body records says)) adds.added

pub body_long : (body records : List ℕ) → IsBlockBody body records → 8 + length body ≡ max 28 (12 + length records)
body_long body records says = let e = says.as_long in omega arith

-- ---- the used entries of nodes, by the rules

mutual
  unfolding nodes_rows used_rows nodes_of lower_nodes

  counts_hold : (b records : List ℕ) (low high : ℤ) (nodes : Nodes) → Hold (nodes_rows b records low high nodes) → (m : ℕ) → In m (nodes_of nodes) → Counts b m
  counts_hold b records low high no_node h m i = absurd i
  counts_hold b records low high (node place room entries more) h m i =
      grind (arith, nat_tests, h.0, i, In-append m (lower_nodes entries) (nodes_of more), Hold-split (used_rows b records place low high entries) (nodes_rows b records (end_of low entries) high more) h.1, counts_below b records place low high entries, counts_hold b records (end_of low entries) high more)

  counts_below : (b records : List ℕ) (vxr : ℕ) (low high : ℤ) (entries : Entries) → Hold (used_rows b records vxr low high entries) → (m : ℕ) → In m (lower_nodes entries) → Counts b m
  counts_below b records vxr low high no_entry h m i = absurd i
  counts_below b records vxr low high (block first last place packed entries) h m i = counts_below b records vxr (with_sign last) high entries h.1.1 m i
  counts_below b records vxr low high (lower first last nodes entries) h m i =
      grind (arith, i, In-append m (nodes_of nodes) (lower_nodes entries), Hold-split (nodes_rows b records (number_before first) (with_sign last) nodes) (used_rows b records vxr (with_sign last) high entries) h.1, counts_hold b records (number_before first) (with_sign last) nodes, counts_below b records vxr (with_sign last) high entries)

-- ---- the edit

module _ {b now : List ℕ} {kind : Kind} {before : List VariableShape} {own : VariableShape} {after : List VariableShape} {new : Leaf} {body : List ℕ} {at : ℕ} (good : Good b) (among : StandsAmong b kind before own after) (w : LeafAdded b now own new body at) where
  abbrev pub room : ℕ
  room = new_room new.first own.index

  abbrev pub nodes : List ℕ
  nodes = nodes_of own.index

  abbrev pub all_nodes : List ℕ
  all_nodes = new_nodes room at ++ nodes

  abbrev pub reborn : List ℕ
  reborn = new.place ∷ new_nodes room at

  -- no record that is taken has more bytes
  abbrev pub enough : ℕ
  enough = 8 + length body + vxr_bytes room

  abbrev records' : List ℕ
  records' = (shape w.roomy).records

  abbrev space : List Mark
  space = taking_all (shape b).unused reborn enough

  abbrev entries : List Mark
  entries = index_marks kind own.vdr all_nodes (field 12 (length w.roomy))

  abbrev step : List Act
  step = leaf_acts new.place (8 + length body) room at

  sound : IsSound b (shape b)
  sound = good_is_sound b good

  -- the block is in its place, and a node is taken
  filled_in : In new.place (shape w.filled).records
  filled_in = placed_in sound w.block.fills

  node_taking : TakenAll w.filled w.roomy (node_acts room at) (new_nodes room at) enough
  node_taking = node_takes room at (placed_grows sound w.block.fills).sound (placed_grows sound w.block.fills).end_is w.node (omega arith)

  pub taking : TakenAll b w.roomy step reborn enough
  taking = taken_then sound w.block.fills (omega arith) node_taking

  new_node : (m : ℕ) → In m (new_nodes room at) → NodeStands w.roomy room m
  new_node m i = node_stands room at m (placed_grows sound w.block.fills).sound w.node i

  -- ---- records that were there

  node_kept : (m : ℕ) → In m nodes → Kept b w.roomy m
  node_kept m i = kept taking.grows.edit m vxr_type (own_node good among m i).0 (own_node good among m i).1 refl

  as_before : (m : ℕ) → In m nodes → (room_at w.roomy m ≡ room_at b m) × (size_at w.roomy m ≡ size_at b m)
  as_before m i = let n = same_node b w.roomy m (node_kept m i) (node_fits good among m i) in (n.room_is, n.size_is)

  -- a record that is in use is not taken
  pub used_apart : (m : ℕ) → In m (shape b).records → type_at b m ≢ uir_type → is_taken_at step m ≡ false
  used_apart m i used = is_in-false m reborn (λ j. used (taking.fresh_all m j i))

  node_apart : (m : ℕ) → In m nodes → is_taken_at step m ≡ false
  node_apart m i = used_apart m (own_node good among m i).0 (λ e. apart vxr_type uir_type refl (sym (own_node good among m i).1 ∙ e))

  -- ---- the entries are written

  -- a node, and where one is written
  node_there : (m : ℕ) → In m all_nodes → In m records' × (type_at w.roomy m ≡ vxr_type)
  node_there m i = elim (In-append m (new_nodes room at) nodes i) [
    | inl j ↦ ((new_node m j).inside, (new_node m j).typed)
    | inr j ↦ let k = node_kept m j in (taking.grows.edit.sub m (own_node good among m j).0, type_kept b w.roomy m k.same k.long ∙ (own_node good among m j).1)
  ]

  node_touched : (t : Touch) → NodeTouch w.roomy own room at t → In t.tile all_nodes × (t.place + t.width ≤ size_at w.roomy t.tile)
  node_touched t (inl n) = (In-append_right t.tile (new_nodes room at) nodes n.0, omega (arith, n.1, as_before t.tile n.0, (node_fits good among t.tile n.0).0))
  node_touched t (inr n) =
      let i : In t.tile (new_nodes room at) = rw n.1 (is_new_node room at n.0) in
      (In-append_left t.tile (new_nodes room at) nodes i, omega (arith, n.2, (new_node t.tile i).size_is))

  -- a touch is marked by the record in which it is
  marked : (t : Touch) → In t.tile records' → t.place + t.width ≤ size_at w.roomy t.tile → 12 ≤ t.place → Covered w.roomy entries t → Marked w.roomy records' entries [] t
  marked t i fit later covered = record { inside = i; fits = fit; behind_size = omega arith; behind_type = inl later; covered = covered }

  touch_marked : (t : Touch) → IndexTouch w.roomy own room at t → Marked w.roomy records' entries [] t
  touch_marked t (inl x) =
      let k = kept_away taking.grows.edit own.vdr (type_in (variables_chain kind)) (tile good among) (typed good among) (all_unmarked-away space variable_types (type_in (variables_chain kind)) own.vdr refl (vdr_of_variable kind)) in
      let size = size_kept b w.roomy own.vdr k.same (omega (arith, k.long)) in
      subst (λ (m : ℕ). Marked w.roomy records' entries [] (record t { tile = m })) (sym x.0)
      (marked (record t { tile = own.vdr }) (taking.grows.edit.sub own.vdr (tile good among)) (omega (arith, size, long good among)) (omega arith) (inl (record { typed = type_kept b w.roomy own.vdr k.same k.long ∙ typed good among; lies = inl refl; low = x.1; high = x.2 })))
  touch_marked t (inr x) =
      let n = node_touched t x.1 in
      let m = node_there t.tile n.0 in
      marked t m.0 n.1 x.0 (inr (inl (record { typed = m.1; lies = n.0; low = x.0; high = omega (arith, n.1, tile_lies w.roomy 8 (length w.roomy) records' t.tile taking.grows.sound.has_shape.tiled m.0) })))

  all_marked : Each (Marked w.roomy records' entries []) w.touches
  all_marked = Each-map (IndexTouch w.roomy own room at) (Marked w.roomy records' entries []) touch_marked w.touches w.within

  entries_written : Edit w.roomy now records' records' entries []
  entries_written = changed_edit w.roomy now records' w.touches entries [] taking.grows.sound.has_shape.tiled w.as_long w.changed all_marked (some_bytes w.roomy (shape w.roomy) taking.grows.sound.has_shape)

  edit : Edit b now (shape b).records records' (space ++ entries) reborn
  edit = subst (Edit b now (shape b).records records' (space ++ entries)) (append-nil reborn) (edit_then taking.grows.edit entries_written)

  tests : IndexTests kind (r_max_rec_field kind ++ space_fields) (space ++ entries)
  tests = leaf_tests kind own.vdr (shape b).unused reborn all_nodes enough (length w.roomy)

  pub file : FileSame b now
  file = file_same sound edit tests.file_clear

  -- what is in use keeps its type and its size
  head_kept : (m : ℕ) → In m records' → type_at w.roomy m ≢ uir_type → (type_at now m ≡ type_at w.roomy m) × (size_at now m ≡ size_at w.roomy m)
  head_kept m i used = let h = entries_written.head m i used (λ r. r) in (head_type w.roomy now m h, head_size w.roomy now m h)

  -- and so is what was taken
  pub taken_used : (m : ℕ) → In m reborn → In m records' × (type_at w.roomy m ≢ uir_type)
  taken_used m (inl q) =
      let used = λ (u : type_at w.filled new.place ≡ uir_type). w.block.fills.in_use (sym w.block.fills.typed ∙ u) in
      let h = node_taking.grows.edit.head new.place filled_in used (λ i. used (node_taking.fresh_all new.place i filled_in)) in
      subst (λ (x : ℕ). In x records' × (type_at w.roomy x ≢ uir_type)) (sym q) (node_taking.grows.edit.sub new.place filled_in, λ u. used (sym (head_type w.filled w.roomy new.place h) ∙ u))
  taken_used m (inr i) = ((new_node m i).inside, λ u. apart vxr_type uir_type refl (sym (new_node m i).typed ∙ u))

  -- ---- chains

  end_now : eof now (shape b).gdr ≡ length now
  end_now = let c = entries_clear kind own.vdr all_nodes (length w.roomy) in subst (λ (g : ℕ). eof now g ≡ length now) (ap (λ (x : Shape). x.gdr) taking.grows.same_shape) (gdr_field taking.grows.sound entries_written c.0 gdr_eof c.1 (omega arith) ∙ taking.grows.end_is ∙ sym w.as_long)

  unused_away : (m : ℕ) → Away entries uir_type m
  unused_away m = unmarked-away entries uir_type m (index_unmarked kind own.vdr all_nodes (field 12 (length w.roomy)))

  -- ---- the edit of one variable

  pub new_index : NewIndex b now kind own (with_leaf new at own.index) records' (shape w.roomy).unused (r_max_rec_field kind ++ space_fields) space all_nodes (field 12 (length w.roomy)) reborn
  new_index =
      let own_nodes : (m : ℕ) → In m (shape b).records → In m all_nodes → In m nodes ⊎ (type_at b m ≡ uir_type) = λ m stands i. elim (In-append m (new_nodes room at) nodes i) [ inl j ↦ inr (taking.fresh_all m (inr j) stands) | inr j ↦ inl j ] in
      let typed : (m : ℕ) → In m reborn → (is_record_type (type_at now m) ≡ true) × (fixed_size (type_at now m) ≤ size_at now m) =
      λ m i. (let x = taken_used m i in let k = head_kept m x.0 x.1 in rw (k.0, k.1) (taking.grows.sound.has_shape.typed m x.0, taking.grows.sound.has_shape.fixed m x.0)) in
      let head = let c = entries_clear kind own.vdr all_nodes (length w.roomy) in gdr_field taking.grows.sound entries_written c.0 gdr_uir_head c.2 (omega arith) in
      let unused = subst (λ (g : ℕ). IsChain now records' uir_type (number now g gdr_uir_head) (shape w.roomy).unused) (ap (λ (x : Shape). x.gdr) taking.grows.same_shape)
      (chain_stays entries_written uir_type _ _ (shape w.roomy).unused taking.grows.sound.has_shape.unused_chain head (λ m i. away-avoids entries uir_type m 0 20 (unused_away m))) in
      search (rules, edit, tests, own_nodes, typed, unused, w.index)

  records_are : (shape now).records ≡ records'
  records_are = of_own.records_are good among (own_edit good among new_index)

  pub leaf_max_rec : number now own.vdr vdr_max_rec ≡ number b own.vdr vdr_max_rec
  leaf_max_rec = max_rec_kept good among new_index

  pub r_max_rec_stays : r_max_rec now ≡ r_max_rec b
  r_max_rec_stays = of_own.r_max_rec_kept good among (own_edit good among new_index) tests.max_clear

  -- ---- the nodes

  -- a touch of a node is one of its entries, or before them
  misses : (m lo hi : ℕ) → In m nodes → 28 + 16 * room_at w.roomy m ≤ lo → (ts : List Touch) → Each (IndexTouch w.roomy own room at) ts → Misses ts m lo hi
  misses m lo hi i behind [] each = tt
  misses m lo hi i behind (t ∷ ts) each = (λ e. grind (arith, e, each.0, behind, behind_no_vdr good among m (node_behind own m i), node_apart m i, node_taken new.place (8 + length body) room at), misses m lo hi i behind ts each.1)

  spare_stays : (m : ℕ) → In m nodes → Same b now (m + (28 + 16 * room_at b m)) (m + size_at b m)
  spare_stays m i =
      let k = node_kept m i in
      same-then b w.roomy now (m + (28 + 16 * room_at b m)) (m + size_at b m) (Same-part b w.roomy m (m + size_at b m) (m + (28 + 16 * room_at b m)) (m + size_at b m) k.same (omega arith) (omega arith))
      (changed_missed w.roomy now records' w.touches entries [] taking.grows.sound.has_shape.tiled w.as_long w.changed all_marked m (28 + 16 * room_at b m) (size_at b m) (taking.grows.edit.sub m (own_node good among m i).0)
      (omega (arith, as_before m i)) (misses m (28 + 16 * room_at b m) (size_at b m) i (omega (arith, as_before m i)) w.touches w.within))

  pub nodes_step : NodesStep b now own.index (nodes_of (with_leaf new at own.index)) step
  nodes_step =
      let come : (m : ℕ) → In m (nodes_of (with_leaf new at own.index)) → In m nodes ⊎ (is_taken_at step m ≡ true) = λ m i. elim (in_nodes_with_leaf new at own.index m i) [ inl j ↦ inl j | inr x ↦ inr (subst (λ (y : ℕ). is_taken_at step y ≡ true) (sym x.0) (node_taken new.place (8 + length body) room at x.1)) ] in
      let sizes = λ (m : ℕ) (i : In m nodes). (let there = node_there m (In-append_right m (new_nodes room at) nodes i) in (head_kept m there.0 (λ u. apart vxr_type uir_type refl (sym there.1 ∙ u))).1 ∙ (as_before m i).1) in
      let rooms = λ (m : ℕ) (i : In m nodes). room_stays b now (shape b).records records' 8 8 new at m own.index (has good among).indexed.has_nodes w.index.has_nodes i in
      search (rules, node_stays new at own.index, node_apart, come, sizes, rooms, spare_stays, w.unused)

  -- ---- its block

  -- nothing of it is written once it is placed
  pub block_stays : (type_of_body body ≡ vvr_type) ⊎ (type_of_body body ≡ cvvr_type) → Kept w.filled now new.place
  block_stays is =
      let written = edit_then node_taking.grows.edit entries_written in
      let clear = leaf_tests kind own.vdr (shape w.filled).unused (new_nodes room at) all_nodes enough (length w.roomy) in
      elim is [
        | inl e ↦ kept written new.place vvr_type filled_in (w.block.fills.typed ∙ e) clear.blocks_clear
        | inr e ↦ kept written new.place cvvr_type filled_in (w.block.fills.typed ∙ e) clear.packed_clear
      ]

  pub block_filled : size_at w.filled new.place ≡ 8 + length body
  block_filled = filled_size sound w.block.fills

  pub filled_longer : length w.filled ≤ length now
  filled_longer = omega (arith, node_taking.grows.edit.longer, w.as_long)

  -- ---- its leaves have their rules

  module _ (vacant : IsVacant own new.first new.last) (short : length now ≤ image_limit) (each_leaf : (l : Leaf) → IsOneOf (leaves_of (with_leaf new at own.index)) l → (is_block now records' l.place ≡ true) × Hold (leaf_rows now records' own.vdr l)) where
    index_ruled : Hold (index_rows now records' own.vdr (with_leaf new at own.index))
    index_ruled =
        let rules = (own_rules good among).1 in
        let counts = each (Counts b) nodes (counts_hold b (shape b).records (negsuc 0) (pos record_number_limit) own.index (Hold-split (nodes_rows b (shape b).records (negsuc 0) (pos record_number_limit) own.index) (flat_map (leaf_rows b (shape b).records own.vdr) (leaves_of own.index)) rules).0) in
        index_rules now records' own.vdr (with_leaf new at own.index) (order_with_leaf new at own.index (own_order good among) vacant.ordered vacant.uncovered vacant.before_next) (node_room good among new_index w.fits (w.counts counts) short) each_leaf

    -- ---- the owners

    exchanged : Exchanged b now own (with_leaf new at own.index) reborn reborn []
    exchanged =
        let times_are : (m : ℕ) → times m (nodes_of (with_leaf new at own.index)) + times m (places_of (leaves_of (with_leaf new at own.index))) + 0 ≡ times m nodes + times m (places_of (leaves_of own.index)) + times m reborn =
        λ m. omega (arith, nodes_with_leaf new at m own.index, new_times room at m, ap (λ (xs : List Leaf). times m (places_of xs)) (leaves_more new at 0 record_number_limit own.index (own_order good among)) ∙ places_new m new (leaves_of own.index), times-append m (new.place ∷ []) (new_nodes room at)) in
        let in_use = λ (m : ℕ) (i : In m reborn) (u : type_at now m ≡ uir_type). (let x = taken_used m i in x.1 (sym (head_kept m x.0 x.1).0 ∙ u)) in
        let back : (m : ℕ) → In m reborn ⊎ In m [] → In m reborn = λ m i. elim i [ inl j ↦ j | inr none ↦ absurd none ] in
        let are : (m : ℕ) → In m reborn → In m reborn ⊎ In m [] = λ m i. inl i in
        let were : (m : ℕ) → In m [] → In m nodes = λ m i. absurd i in
        let out : (m : ℕ) → In m [] → type_at now m ≡ uir_type = λ m i. absurd i in
        search (rules, times_are, are, back, were, out, taking.fresh_all, taking.once, in_use)

    -- ---- the rules of the image

    pub good_ruled : Good now
    good_ruled = changed_good good among new_index reborn [] exchanged index_ruled end_now short

    -- ---- how it goes on

    pub goes_ruled : GoesOn b now kind before own (record own { index = with_leaf new at own.index }) after step
    goes_ruled =
        let follows = acts_still_by taking.grows.sound taking.follow entries_written (index_unmarked kind own.vdr all_nodes (field 12 (length w.roomy))) records_are (of_own.unused_are good among (own_edit good among new_index)) w.as_long in
        goes_by good among (index_edit good among new_index) good_ruled follows (keeps_fields sound edit records_are (shape b).gdr gdr_type (r_max_rec_field kind ++ space_fields) (gdr_in b (shape b) sound.has_shape) (gdr_typed b (shape b) sound.has_shape) tests.heads_clear tests.inside)
        (λ m i free.
        let ok = sound.has_shape.unused_chain.linkable m i in
        let inside = linkable-in b (shape b).records uir_type m ok in
        let marked = listed_free taking m i (tile_lies b 8 (length b) (shape b).records m sound.has_shape.tiled inside).long free in
        keeps_within sound edit records_are m uir_type links inside (linkable-type b (shape b).records uir_type m ok) (Avoids-append space entries uir_type m 0 12 marked.0 (away-avoids entries uir_type m 0 12 (unused_away m)))
        (Within-append space entries uir_type m links marked.1 (away-within entries uir_type m links (unused_away m))))
        (λ m i typed out. keeps_away sound edit records_are m uir_type (Only []) i typed (Away-append space entries uir_type m (unlisted_away taking m i out) (unused_away m)))

  -- ---- its records

  module _ {records : List ℕ} (says : IsBlockBody body records) where
    k : Kept w.filled now new.place
    k = block_stays (inl (plain_body body records says))

    block_size : size_at now new.place ≡ 8 + length body
    block_size = size_kept w.filled now new.place k.same (let l = k.long in omega arith) ∙ filled_size sound w.block.fills

    block_typed : type_at now new.place ≡ vvr_type
    block_typed = type_kept w.filled now new.place k.same k.long ∙ w.block.fills.typed ∙ plain_body body records says

    body_now : take (length body) (drop (new.place + 8) now) ≡ body
    body_now =
        let size = filled_size sound w.block.fills in
        piece_kept w.filled now new.place (new.place + size_at w.filled new.place) k.same (new.place + 8) (length body) (omega arith) (omega arith) (omega (arith, k.inside)) (omega (arith, k.inside, node_taking.grows.edit.longer))
        ∙ ap (λ (xs : List ℕ). take (length body) (drop (new.place + 8) xs)) w.block.written ∙ put_there w.block.taken (new.place + 8) body (omega (arith, w.block.inside))

    pub blocks_go_on : BlocksGoOn b now own new records
    blocks_go_on =
        let old = each_of (λ (l : Leaf). Same b now l.place (l.place + size_at b l.place)) (leaves_of own.index) (λ l i. (block_kept good among new_index l.place (place_in (leaves_of own.index) l i)).same) in
        let whole : length body ≡ 4 + (length body - 4) = omega (arith, body_long body records says) in
        let records_are : take (length records) (drop (new.place + 12) now) ≡ records =
        grind (arith, whole, take-take (length records) (length body - 4) (drop 4 (drop (new.place + 8) now)) (omega (arith, body_long body records says)), drop-take 4 (length body - 4) (drop (new.place + 8) now), drop-drop 4 (new.place + 8) now, body_now, says.records_are) in
        let spare : (i : ℕ) → 12 + length records ≤ i → i < size_at now new.place → byte now (new.place + i) ≡ 0 =
        λ i l lt. grind (arith, l, lt, get_or-drop (new.place + 8) now (i - 8) 0, get_or-take (length body) (drop (new.place + 8) now) (i - 8) 0 (omega (arith, block_size)), body_now, says.spare (i - 8) (omega arith) (omega (arith, block_size))) in
        search (rules, old, block_size ∙ body_long body records says, records_are, spare)

    module _ (vacant : IsVacant own new.first new.last) (as_long : length records ≡ (new.last + 1 - new.first) * record_bytes b own.vdr) (short : length now ≤ image_limit) (loose : is_compressed b own.vdr ≡ false) where
      -- ---- the blocks

      block_rows : (l : Leaf) → In l.place records' → type_at now l.place ≡ vvr_type → l.first ≤ l.last → l.last ≤ record_number_limit → 12 + (l.last + 1 - l.first) * record_bytes b own.vdr ≤ size_at now l.place → (is_block now records' l.place ≡ true) × Hold (leaf_rows now records' own.vdr l)
      block_rows l stands typed ordered small fit =
          rw (is_in-true l.place records' stands, typed, count_is l small ordered, record_alike file (vdr_alike good among (index_edit good among new_index))) (refl, (of_le (12 + (l.last + 1 - l.first) * record_bytes b own.vdr) (size_at now l.place) fit, tt))

      each_leaf : (l : Leaf) → IsOneOf (leaves_of (with_leaf new at own.index)) l → (is_block now records' l.place ≡ true) × Hold (leaf_rows now records' own.vdr l)
      each_leaf l i = elim ((one_of_leaves new at 0 record_number_limit own.index (own_order good among) l).0 i) [
        | inl q ↦
            let long : 12 + (new.last + 1 - new.first) * record_bytes b own.vdr ≤ size_at now new.place = rw (block_size, body_long body records says, as_long) (omega arith) in
            subst (λ (x : Leaf). (is_block now records' x.place ≡ true) × Hold (leaf_rows now records' own.vdr x)) (sym q) (block_rows new (taken_used new.place (inl refl)).0 block_typed vacant.ordered (before_limit new.first new.last (firsts_of own.index) vacant.before_next) long)
        | inr j ↦
            let x = (whole good among loose l j).leaf in
            let at = place_in (leaves_of own.index) l j in
            let k = block_kept good among new_index l.place at in
            block_rows l (edit.sub l.place (behind_in good among l.place (block_behind own l.place at))) (type_kept b now l.place k.same k.long ∙ x.typed) x.ordered x.small (rw (size_kept b now l.place k.same (omega (arith, k.long))) x.room)
      ]

      pub good_now : Good now
      good_now = good_ruled vacant short each_leaf

      pub leaf_goes_on : GoesOn b now kind before own (record own { index = with_leaf new at own.index }) after step
      leaf_goes_on = goes_ruled vacant short each_leaf
