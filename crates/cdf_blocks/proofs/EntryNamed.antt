-- The entry of a leaf was written in an image that has the index which was: by then it has the one in which the leaf is another one.
use Rattle.cdf_blocks.proofs.Common.{Ascending, In, IsOneOf, Leaf, List, Nodes, SaysEntry, [], ap, arith, cases_eq, false, inl, inr, is_linkable, length, nat_tests, places_of, refl, room_at, subst, sym, times, times-append, true, used_count, vxr_type, ℕ, ◌*◌, ◌++◌, ◌+◌, ◌<◌, ◌==◌, ◌∙◌, ◌∷◌, ◌≡◌, ◌≢◌, ◌≤◌, ◌⊎◌, Bool}
unfoldable use Rattle.cdf_blocks.proofs.Common.{HasNodes, InOrder, leaves_of, nodes_of, redo, with_range}
use Rattle.cdf_edits.proofs.Common.{AreTiles, Edit, Field, Good, IsIndex, Kind, Mark, Marked, NodeFits, Same, VariableShape, cvvr_type, field, keeps_file, avoided, gdr_type, next_of, number, number_kept, record_number_limit, shape, size_at, size_kept, tile_lies, touched_field, type_at, type_kept, variable_records, vdr_vxr_head, vvr_type, vxr_n_used_entries}
use Rattle.cdf_edits.proofs.Edits.Common.{Kept, StandsAmong, apart, changed_edit, has, long, spliced_times, used_times, with_shapes}
use Rattle.cdf_edits.proofs.Edits.Composing.{part}
use Rattle.cdf_edits.proofs.Edits.LeafPieces.{one_place}
use Rattle.cdf_edits.proofs.Edits.PlainLeaves.{leaves_apart, leaves_ascend}
use Rattle.cdf_edits.proofs.Edits.StandsAmong.{through}
use Rattle.cdf_edits.proofs.Index.NodeEdited.{redone}
use Rattle.cdf_format.specs.Index.{offset_at}
use Rattle.cdf_format.specs.Records.{vxr_entries}
use Rattle.cdf_index.proofs.Common.{EntrySet, MayName, StillSays}
use Rattle.cdf_index.proofs.Inserting.{front_stays, room_stays, used_stays}
use Rattle.cdf_index.proofs.NewIndex.{index_marks}
use Rattle.cdf_index.proofs.OneNode.{SameNode, same_node}
use Rattle.cdf_index.proofs.OwnRecords.{parts_times}
use Rattle.cdf_index.proofs.TreeTouched.{Touched, touched}
use Rattle.cdf_index.specs.Replacing.{with_index}
use Rattle.cdf_leaves.proofs.Own as of_own
use Rattle.cdf_leaves.proofs.Spares.{Spares}
use Rattle.cdf_blocks.specs.Blocks.{LiesIn, type_of_block}
use Rattle.cdf_blocks.specs.Shortened.{NodeStays}
use Rattle.cdf_blocks.proofs.BlockOf.{block_typed, in_places}
use Rattle.cdf_blocks.proofs.PlacedLeaf.{all_placed, count, count_once, leaves_placed, lies_by, link_stays, new_placed, nodes_stay, one_placed, order_placed, places_times, swapping, swapping_is}
use Rattle.cdf_blocks.proofs.PlacedNode.{node_names, swapped_owed}

-- ---- a node but for one entry

-- a node stays but for one entry of one node
pub record NodeBut (b now : List ℕ) (x i m : ℕ) : Type 0 where
  pub size_is : size_at now m ≡ size_at b m
  pub room_is : room_at now m ≡ room_at b m
  pub used_is : used_count now m ≡ used_count b m
  pub count_is : number now m vxr_n_used_entries ≡ number b m vxr_n_used_entries
  pub next_is : next_of now m ≡ next_of b m
  pub entries : (j : ℕ) → j < room_at b m → (m ≡ x → j ≢ i) → StillSays b now m j j

pub but_same : {b now : List ℕ} {x i m : ℕ} → SameNode b now m → NodeBut b now x i m
but_same n = record { size_is = n.size_is; room_is = n.room_is; used_is = n.used_is; count_is = n.count_is; next_is = n.next_is; entries = λ j lt out. n.entries j lt }

pub but_then : {b mid now : List ℕ} {x i m : ℕ} → NodeBut b mid x i m → NodeBut mid now x i m → NodeBut b now x i m
but_then {m = m} p q = record {
  size_is = q.size_is ∙ p.size_is;
  room_is = q.room_is ∙ p.room_is;
  used_is = q.used_is ∙ p.used_is;
  count_is = q.count_is ∙ p.count_is;
  next_is = q.next_is ∙ p.next_is;
  entries = λ j lt out f l o s. q.entries j (omega (arith, p.room_is)) out f l o (p.entries j lt out f l o s);
}

-- that entry is used
pub spares_but : {b now : List ℕ} {x i m : ℕ} → i < used_count b x → NodeBut b now x i m → Spares b now m
spares_but {b = b} used n = record {
  size_is = n.size_is;
  room_is = n.room_is;
  used_is = n.used_is;
  count_is = n.count_is;
  spare = λ j le lt. n.entries j lt (λ e q. absurd (omega (arith, used, le, q, ap (used_count b) e)));
}

-- and names a block
pub stays_but : {b now : List ℕ} {x i m f l o : ℕ} → SaysEntry b x i f l o → NodeBut b now x i m → NodeStays b now o m
stays_but {b = b} {i = i} says n = record {
  size_is = n.size_is;
  room_is = n.room_is;
  used_is = n.used_is;
  count_is = n.count_is;
  next_is = n.next_is;
  entries = λ j lt ne. n.entries j lt (λ e q. ne (ap (λ (y : ℕ × ℕ). offset_at b y.0 y.1) (λ k. (e k, q k)) ∙ says.offset_is));
}

-- ---- blocks by their types

pub not_node : (b ts : List ℕ) (p : ℕ) (packed : Bool) → type_at b p ≡ type_of_block packed → is_linkable b ts vxr_type p ≡ false
not_node b ts p true e = grind (arith, nat_tests, e)
not_node b ts p false e = grind (arith, nat_tests, e)

kind_of_block : (packed : Bool) → (type_of_block packed == cvvr_type) ≡ packed
kind_of_block true = refl
kind_of_block false = refl

pub no_node_type : (packed : Bool) → type_of_block packed ≡ vxr_type → ⊥
no_node_type true e = apart cvvr_type vxr_type refl e
no_node_type false e = apart vvr_type vxr_type refl e

pub entries_clear : (kind : Kind) (v : ℕ) (nodes : List ℕ) (most : ℕ) → (keeps_file (index_marks kind v nodes (field 12 most)) ≡ true) × (avoided (index_marks kind v nodes (field 12 most)) gdr_type 36 44 ≡ true) × (avoided (index_marks kind v nodes (field 12 most)) gdr_type 64 72 ≡ true)
entries_clear kind v nodes most = grind arith

-- ---- the image

-- an image on the way, which has the descriptor and the nodes of the variable still, and its index
pub record Between (b mid rs : List ℕ) (own : VariableShape) : Type 0 where
  pub tiled : AreTiles mid 8 (length mid) rs
  pub some : 8 ≤ length mid
  pub vdr_in : In own.vdr rs
  pub vdr_kept : Kept b mid own.vdr
  pub node_in : (m : ℕ) → In m (nodes_of own.index) → In m rs
  pub node_kept : (m : ℕ) → In m (nodes_of own.index) → Kept b mid m
  pub has_nodes : HasNodes mid rs 8 own.index
  pub blocks : (m : ℕ) → In m (places_of (leaves_of own.index)) → In m rs

module _ {b mid now rs : List ℕ} {kind : Kind} {before : List VariableShape} {own : VariableShape} {after : List VariableShape} (good : Good b) (at : StandsAmong b kind before own after) (old new : Leaf) (one : IsOneOf (leaves_of own.index) old) (lies : LiesIn old new.first new.last) (x i : ℕ) (x_in : In x (nodes_of own.index)) (used : i < used_count b x) (says : SaysEntry b x i old.first old.last old.place)
    (way : Between b mid rs own) (old_mid : type_at mid old.place ≡ type_of_block old.packed) (new_mid : type_at mid new.place ≡ type_of_block new.packed) (new_in : In new.place rs) (set : EntrySet mid now x i new.first new.last new.place) where
  abbrev pub index' : Nodes
  index' = with_range old.first new own.index

  abbrev nodes : List ℕ
  nodes = nodes_of own.index

  abbrev leaves : List Leaf
  leaves = leaves_of own.index

  abbrev pub entries : List Mark
  entries = index_marks kind own.vdr nodes (field 12 (length mid))

  -- ---- the entry

  pub node_mid : (m : ℕ) → In m nodes → type_at mid m ≡ vxr_type
  node_mid m j = let k = way.node_kept m j in type_kept b mid m k.same k.long ∙ (of_own.own_node good at m j).1

  pub same_mid : (m : ℕ) → In m nodes → SameNode b mid m
  same_mid m j = same_node b mid m (way.node_kept m j) (of_own.node_fits good at m j)

  pub fits_mid : (m : ℕ) → In m nodes → NodeFits mid m
  fits_mid m j = let n = same_mid m j in let f = of_own.node_fits good at m j in (omega (arith, n.size_is, n.room_is, f.0), omega (arith, n.used_is, n.room_is, f.1))

  x_inside : x + 28 ≤ length mid
  x_inside = let f = fits_mid x x_in in let l = tile_lies mid 8 (length mid) rs x way.tiled (way.node_in x x_in) in omega (arith, f.0, l.high)

  pub t : Touched mid now rs x
  t = touched way.tiled (way.node_in x x_in) (omega arith) (omega (arith, (fits_mid x x_in).0)) set.changed set.as_long

  says_mid : SaysEntry mid x i old.first old.last old.place
  says_mid = let n = same_mid x x_in in n.entries i (omega (arith, used, (of_own.node_fits good at x x_in).1)) old.first old.last old.place says

  pub new_typed : type_at now new.place ≡ type_of_block new.packed
  new_typed = t.heads.types new.place new_in ∙ new_mid

  pub old_in : In old.place rs
  old_in = way.blocks old.place (in_places good at old one)

  pub old_typed : type_at now old.place ≡ type_of_block old.packed
  old_typed = t.heads.types old.place old_in ∙ old_mid

  may_name : MayName now rs new
  may_name = record { no_node = not_node now rs new.place new.packed new_typed; packed_is = ap (λ (n : ℕ). n == cvvr_type) new_typed ∙ kind_of_block new.packed }

  ascend : Ascending 0 2147483647 leaves
  ascend = leaves_ascend good at

  once : count old.first leaves ≤ 1
  once = count_once old.first 0 2147483647 leaves ascend

  has_redone : HasNodes now rs 8 (redo x (swapping new x i) own.index)
  has_redone =
      redone mid now rs rs t.heads x (swapping new x i) (swapped_owed mid now rs rs t.heads x i old.first old.last old.place new set (fits_mid x x_in).1 x_inside says_mid (not_node now rs old.place old.packed old_typed) may_name) 8 own.index way.has_nodes (has good at).indexed.once
      (λ m j ne. (t.others m (way.node_in m j) ne, fits_mid m j)) way.blocks

  law : redo x (swapping new x i) own.index ≡ index'
  law = swapping_is old.first new x i own.index (node_names b (shape b).records x i old.first old.last old.place used says (not_node b (shape b).records old.place old.packed (block_typed good at old one)) 8 own.index (has good at).indexed.has_nodes) (has good at).indexed.once once x_in

  pub vdr_set : Kept mid now own.vdr
  vdr_set = t.others own.vdr way.vdr_in (λ e. of_own.vdr_apart good at x (of_own.own_node good at x x_in).1 (sym e))

  pub vdr_field : (f : Field) → f.place + f.width ≤ 340 → number now own.vdr f ≡ number b own.vdr f
  vdr_field f le =
      let k = way.vdr_kept in
      let fit = through (f.place + f.width) 340 (size_at b own.vdr) le (long good at) in
      number_kept mid now own.vdr vdr_set.same f (omega (arith, fit, size_kept b mid own.vdr k.same (omega (arith, k.long)))) ∙ number_kept b mid own.vdr k.same f fit

  pub index_now : IsIndex now rs (number now own.vdr vdr_vxr_head) index'
  index_now = record {
    link_is = vdr_field vdr_vxr_head (omega arith) ∙ (has good at).indexed.link_is ∙ sym (link_stays old.first new own.index);
    has_nodes = subst (HasNodes now rs 8) law has_redone;
    once = rw (nodes_stay old.first new own.index) (has good at).indexed.once;
  }

  -- ---- as an edit

  pub marked : Marked mid rs entries [] (touched_field x (vxr_entries (room_at mid x)))
  marked = let f = fits_mid x x_in in let l = tile_lies mid 8 (length mid) rs x way.tiled (way.node_in x x_in) in record { inside = way.node_in x x_in; fits = omega (arith, f.0); behind_size = omega arith; behind_type = inl (omega arith); covered = inr (inl (record { typed = node_mid x x_in; lies = x_in; low = omega arith; high = omega (arith, f.0, l.high) })) }

  pub entry_edit : Edit mid now rs rs entries []
  entry_edit = changed_edit mid now rs (touched_field x (vxr_entries (room_at mid x)) ∷ []) entries [] way.tiled set.as_long set.changed (marked, tt) way.some

  -- ---- its nodes and leaves

  pub set_but : (m : ℕ) → In m nodes → NodeBut mid now x i m
  set_but m j = elim (cases_eq m x) [
    | inl e ↦ rw e (record {
      size_is = front_stays mid now x 28 (16 * room_at mid x) set.changed x_inside 0 8 (omega arith);
      room_is = room_stays mid now x (16 * room_at mid x) set.changed x_inside;
      used_is = used_stays mid now x (16 * room_at mid x) set.changed x_inside;
      count_is = front_stays mid now x 28 (16 * room_at mid x) set.changed x_inside 24 4 (omega arith);
      next_is = front_stays mid now x 28 (16 * room_at mid x) set.changed x_inside 12 8 (omega arith);
      entries = λ k lt out. set.others k lt (out refl);
    })
    | inr ne ↦ but_same (same_node mid now m (t.others m (way.node_in m j) ne) (fits_mid m j))
  ]

  pub nodes_but : (m : ℕ) → In m nodes → NodeBut b now x i m
  nodes_but m j = but_then (but_same (same_mid m j)) (set_but m j)

  pub spares : (m : ℕ) → In m nodes → Spares b now m
  spares m j = spares_but used (nodes_but m j)

  -- behind its entries a node stays
  pub spare_stays : (m : ℕ) → In m nodes → Same mid now (m + (28 + 16 * room_at mid m)) (m + size_at mid m)
  spare_stays m j = part mid now rs (touched_field x (vxr_entries (room_at mid x)) ∷ []) entries [] way.tiled set.as_long set.changed (marked, tt) m (28 + 16 * room_at mid m) (size_at mid m) (way.node_in m j) (omega arith) ((λ e. inr (omega (arith, ap (room_at mid) e))), tt)

  pub leaves_are : leaves_of index' ≡ all_placed old.first new leaves
  leaves_are = leaves_placed old.first new own.index once

  -- a leaf is the new one, or one of the others
  pub leaf_cases : (l : Leaf) → IsOneOf (leaves_of index') l → (l ≡ new) ⊎ (IsOneOf leaves l × (l.place ≢ old.place))
  leaf_cases l j = elim (one_placed old.first new leaves l (subst (λ (ls : List Leaf). IsOneOf ls l) leaves_are j)) [
    | inl q ↦ inl q
    | inr k ↦ inr (k.0, (λ e. k.1 (ap (λ (y : Leaf). y.first) (one_place leaves (leaves_apart good at) l old k.0 one e))))
  ]

  pub new_one : IsOneOf (leaves_of index') new
  new_one = subst (λ (ls : List Leaf). IsOneOf ls new) (sym leaves_are) (new_placed old new leaves one)

  pub order_now : InOrder 0 record_number_limit index'
  order_now = order_placed old.first new 0 2147483646 own.index (of_own.own_order good at) (lies_by 0 2147483647 leaves old new ascend one lies)

  -- ---- how often the owners have a record

  index_times : (m : ℕ) → times m (nodes_of index') + times m (places_of (leaves_of index')) + times m (old.place ∷ []) ≡ times m nodes + times m (places_of leaves) + times m (new.place ∷ [])
  index_times m = omega (arith, ap (times m) (nodes_stay old.first new own.index), ap (λ (ls : List Leaf). times m (places_of ls)) leaves_are, places_times old new leaves m one once)

  pub used_by : (records list : List ℕ) (m : ℕ) → used_times (with_shapes (shape b) kind records list (before ++ with_index own index' ∷ after)) m + times m (old.place ∷ []) ≡ used_times (shape b) m + times m (new.place ∷ [])
  used_by records list m = spliced_times (shape b) kind records list before (own ∷ []) (with_index own index' ∷ []) after at.was m (times m (new.place ∷ [])) (times m (old.place ∷ []))
      (omega (arith, times-append m (variable_records (with_index own index')) [], times-append m (variable_records own) [], parts_times own m, parts_times (with_index own index') m, index_times m))
