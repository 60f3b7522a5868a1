-- The nodes that code made, and their levels, as a tree that stands in the image.
use Rattle.cdf_reindex.proofs.Common.{times-append, length-append, Shape, Each-in, Act, AllMade, AllTaken, AreInOrder, AreTight, Ascending, Each, Each-split, EntriesTight, Entry, Fills, Good, HasNodes, HasVariable, InOrder, IndexMade, IsBare, IsBuilt, IsPyramid, IsSound, Kept, Kind, Leaf, List, NewNode, NextsAreZero, NodeMade, NodeWritten, Nodes, PyramidMade, StandsAmong, TakenAll, Takes, Took, VariableShape, [], alone, ap, arith, content, each, ends, entries_for, entry_past, eof, eof_by_rules, filled_size, fills, from_below, gdr_offset, good_by_its_shape, good_is_sound, good_long, inl, kept, leaf_words, leaves_ascend, leaves_named, leaves_of, length, length-map, link_to, linkable-from, map, no_node, node_short, nodes_above, nodes_at, nodes_of, none_taken, of_kind, place_in, placed_grows, places_of, record_number_limit, refl, rules, rules_of_good, same_node, sealed_kept, shape, size_at, subst, suc, sym, taken_then, times, type_kept, variables, vxr_bytes, vxr_type, with_space, ℕ, ◌+◌, ◌<◌, ◌^◌, ◌∙◌, ◌∷◌, ◌≡◌, ◌≤◌}
use Rattle.cdf_reindex.proofs.LevelSteps.{all_longest, length_words, say_entries}
use Rattle.cdf_reindex.proofs.Levels.{Says, has_pyramid, in_by_times, makes_pyramid, nodes_are}

-- ---- a record that was taken becomes a node

module _ (b taken : List ℕ) (place : ℕ) (sound : IsSound b (shape b)) (takes : Takes b taken (shape b) (shape taken) 1052 place) (sound_taken : IsSound taken (shape taken)) (stays : content taken ≡ content b) (now : List ℕ) (entries : List Entry) (w : NodeWritten taken now place 64 0 entries) where
  filled : Fills b taken now (shape b) (shape now).records (shape now).unused 1052 place vxr_type
  filled = fills b taken 64 place sound takes sound_taken stays now 0 entries w

  pub node_made : length entries ≤ 64 → NodeMade b now entries place
  node_made few = grind (arith, filled, filled_size sound filled, w, w.says, entry_past entries, node_short b taken 64 place sound takes sound_taken stays now 0 entries w)

  pub node_eof : eof now (gdr_offset now) ≡ length now
  node_eof = ends sound filled

-- ---- the nodes of a new index are taken one after the other: one edit, and acts that follow

abbrev pub node_takes : List ℕ → List Act
node_takes places = map (λ vxr. Took vxr (vxr_bytes 64)) places

pub all_taken : (b now places : List ℕ) → IsSound b (shape b) → eof b (shape b).gdr ≡ length b → AllTaken b now places → TakenAll b now (node_takes places) places (vxr_bytes 64)
all_taken b now [] sound end same = subst (λ (x : List ℕ). TakenAll b x [] [] (vxr_bytes 64)) (sym same) (none_taken sound end)
all_taken b now (place ∷ more) sound end all = let first = placed_grows sound all.1.0.fills in taken_then sound all.1.0.fills (omega arith) (all_taken all.0 now more first.sound first.end_is all.1.1)

-- a good image ends where it says
pub end_before : (b : List ℕ) → Good b → eof b (shape b).gdr ≡ length b
end_before b good = eof_by_rules b (shape b) (good_is_sound b good) (sealed_kept b (good_long b (shape b) (good_by_its_shape b good)) (rules_of_good b good)).0

-- what holds of all variables of an image whose records and unused list alone are others holds of one of them
pub own_of : (P : VariableShape → Type 0) (now : List ℕ) {b records list : List ℕ} {kind : Kind} {before : List VariableShape} {own : VariableShape} {after : List VariableShape} → StandsAmong b kind before own after → shape now ≡ with_space (shape b) records list → Each P (variables (shape now)) → P own
own_of P now {b = b} {kind = kind} {before = before} {own = own} {after = after} among same all = (Each-split P before (own ∷ after) (subst (Each P) among.was (of_kind P kind (shape b) (subst (λ (s : Shape). Each P (variables s)) same all)))).1.0

-- ---- new nodes stay as they were made while others are made

pub bare_by : (b now : List ℕ) (place : ℕ) → Kept b now place → IsBare b place → IsBare now place
bare_by b now place k bare = let n = same_node b now place k bare.fits in grind (arith, n.entries, bare.unused)

pub nodes_taken : (b now : List ℕ) (nodes : List NewNode) → AllMade b now nodes → AllTaken b now (places_of nodes)
nodes_taken b now [] m = m
nodes_taken b now (new ∷ more) m = (m.0, (record { taken = m.1.0.taken; fills = m.1.0.fills }, nodes_taken m.0 now more m.1.1))

pub all_stand : (b now : List ℕ) (nodes : List NewNode) → IsSound b (shape b) → eof b (shape b).gdr ≡ length b → AllMade b now nodes → Each (IsBare now) (places_of nodes) × Each (Says now (shape now).records) nodes
all_stand b now [] sound end m = (tt, tt)
all_stand b now (new ∷ more) sound end m =
    let made = m.1.0 in
    let one = placed_grows sound made.fills in
    let edit = (all_taken m.0 now (places_of more) one.sound one.end_is (nodes_taken m.0 now more m.1.1)).grows.edit in
    let inside = place_in sound made.fills in
    let k = kept edit new.place vxr_type inside made.fills.typed refl in
    let n = same_node m.0 now new.place k made.bare.fits in
    let many = length_words new.entries in
    let long : 28 ≤ size_at now new.place = omega (arith, n.size_is, filled_size sound made.fills) in
    let link = linkable-from now (shape now).records vxr_type new.place (edit.sub new.place inside) (type_kept m.0 now new.place k.same k.long ∙ made.fills.typed) long in
    let say = say_entries now new.place 0 new.entries (λ j lt. let z : 0 + j ≡ j = omega arith in rw z (n.entries j (omega (arith, made.bare.room_is, made.bare.fits.1, made.used_is, many)) _ _ _ (made.says j (omega (arith, made.bare.room_is, made.bare.fits.1, made.used_is, many))))) in
    let rest = all_stand m.0 now more one.sound one.end_is m.1.1 in
    ((bare_by m.0 now new.place k made.bare, rest.0), search (rules, link, n.next_is ∙ made.bare.next_is, n.room_is ∙ made.bare.room_is, n.used_is ∙ made.used_is ∙ many, say, rest.1))

-- ---- the levels that code made, as a tree that stands in the image

-- ---- leaves in order are few

ascend_most : (low upto : ℕ) (leaves : List Leaf) → low ≤ upto → Ascending low upto leaves → length leaves + low ≤ upto
ascend_most low upto [] l a = omega arith
ascend_most low upto (leaf ∷ more) l a = omega (arith, a.0, a.1, ascend_most (suc leaf.last) upto more a.2 a.3)

ascend_order : (low high : ℕ) (leaves : List Leaf) → Ascending low (suc high) leaves → AreInOrder low high (entries_for leaves)
unfolding AreInOrder
ascend_order low high [] a = tt
ascend_order low high (leaf ∷ more) a = (a.0, a.1, omega (arith, a.2), ascend_order (suc leaf.last) high more a.3)

pub few_leaves : (nodes : Nodes) → InOrder 0 record_number_limit nodes → length (leaves_of nodes) ≤ 2147483648
few_leaves nodes o = let m = ascend_most 0 2147483647 (leaves_of nodes) (omega arith) (leaves_ascend 0 record_number_limit nodes o (omega arith)) in omega arith

-- ---- an index of new nodes, over the leaves of a variable

pub record TreeMade (b made : List ℕ) (own : VariableShape) (top : ℕ) : Type 0 where
  pub index : Nodes
  pub link_is : top ≡ link_to index
  pub built : IsBuilt b made own index

-- none where there are no leaves
pub no_pyramid : IsPyramid no_node
unfolding nodes_at AreTight EntriesTight
no_pyramid = record { full = λ levels. tt; even = λ levels. inl refl; tight = tt }

no_tree : (b : List ℕ) → IsSound b (shape b) → (own : VariableShape) → leaves_of own.index ≡ [] → IsBuilt b b own no_node
unfolding HasNodes nodes_of leaves_of nodes_at nodes_above NextsAreZero InOrder
no_tree b sound own none = grind (arith, no_pyramid, none)

module _ {b : List ℕ} {kind : Kind} {before : List VariableShape} {own : VariableShape} {after : List VariableShape} (good : Good b) (among : StandsAmong b kind before own after) (few : length (leaves_of own.index) ≤ 2147483648) (made : List ℕ) (top : ℕ) (small : top < 2 ^ 64) where
  abbrev ls : List Leaf
  ls = leaves_of own.index

  some_tree : 1 ≤ length ls → PyramidMade b made ls top → TreeMade b made own top
  some_tree some p =
      let all = from_below ((p.root ∷ []) ∷ p.more) in
      let pyramid = makes_pyramid ls p.root p.more p.are in
      let places = pyramid.places few in
      let taken = nodes_taken b made all p.made in
      let grows = (all_taken b made (places_of all) (good_is_sound b good) (end_before b good) taken).grows in
      let stand = all_stand b made all (good_is_sound b good) (end_before b good) p.made in
      let has = own_of (HasVariable made (shape made).records) made among grows.same_shape grows.sound.has_shape.have_variables in
      let times_are = λ (m : ℕ). nodes_are ls p.root p.more p.are (times m) (times-append m) in
      let long = nodes_are ls p.root p.more p.are length length-append in
      let bare = each (IsBare made) (nodes_of (alone p.root)) (λ m i. Each-in (IsBare made) (places_of all) stand.0 m (in_by_times (nodes_of (alone p.root)) (places_of all) times_are m i)) in
      let stands = has_pyramid ls p.root p.more p.are made (shape made).records 8 (omega (arith, pyramid.few few)) (leaves_named made (shape made).records 8 own.index has.indexed.has_nodes) stand.1 in
      let order = λ (o : InOrder 0 record_number_limit own.index). pyramid.order record_number_limit (ascend_order 0 record_number_limit ls (leaves_ascend 0 record_number_limit own.index o (omega arith))) in
      let each_taken = λ (m : ℕ). ap (times m) places ∙ sym (times_are m) in
      record { index = alone p.root; link_is = p.place_is; built = search (arith, rules, pyramid.leaves_are, pyramid.filled, pyramid.fewest some few, pyramid.nexts, order, subst (AllTaken b made) (sym places) taken, each_taken, ap length places ∙ sym long, stands, rw p.place_is at small, bare, all_longest b made all p.made, long, length-map all (λ (new : NewNode). new.place)) }

  pub tree_made : IndexMade b made (map leaf_words ls) top → TreeMade b made own top
  tree_made = go ls refl
    where
      go : (leaves : List Leaf) → ls ≡ leaves → IndexMade b made (map leaf_words leaves) top → TreeMade b made own top
      go [] none m = record { index = no_node; link_is = m.0; built = subst (λ (x : List ℕ). IsBuilt b x own no_node) (sym m.1) (no_tree b (good_is_sound b good) own none) }
      go (leaf ∷ more) some m = some_tree (subst (λ (l : List Leaf). 1 ≤ length l) (sym some) (omega arith)) (subst (λ (l : List Leaf). PyramidMade b made l top) (sym some) (m (leaf ∷ more) refl))
