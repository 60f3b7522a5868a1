-- One variable has another index by now, with the same nodes: what stays of its nodes, its other blocks and its CPR, and that it has its rules where its leaves have theirs.
use Rattle.cdf_blocks.proofs.Common.{Each, Entries, In, In-append, IsOneOf, Leaf, List, Nodes, [], arith, block, each_of, lower, no_entry, no_node, node, of_each, subst, sym, true, ℕ, ◌∙◌, ◌∷◌, ◌≡◌}
unfoldable use Rattle.cdf_blocks.proofs.Common.{leaves_of, lower_nodes, nodes_of}
use Rattle.cdf_edits.proofs.Common.{Good, Hold, Hold-split, Kind, LeafFits, Mark, NodeFits, Shape, VariableFits, VariableShape, cpr_type, end_of, flat_map, has_room, index_rows, is_a, is_block, is_in-true, leaf_rows, negsuc, nodes_rows, number_before, pos, record_number_limit, shape, type_kept, used_rows, with_sign, ℤ}
unfoldable use Rattle.cdf_edits.proofs.Common.{nodes_rows, used_rows}
use Rattle.cdf_edits.proofs.Edits.Common.{Kept, StandsAmong, behind_in, each, end_stays, fits, sound}
use Rattle.cdf_edits.proofs.Edits.IndexEdited.{IndexEdit, cpr_kept, file, stays, vdr_size}
use Rattle.cdf_edits.proofs.Edits.LeafPieces.{place_in}
use Rattle.cdf_edits.proofs.Edits.PlainLeaves.{own_rules}
use Rattle.cdf_edits.proofs.Edits.VariableCopied.{block_behind, cpr_behind}
use Rattle.cdf_edits.proofs.Frame.VdrAlike.{block_fits_alike, plain_alike}
use Rattle.cdf_edits.proofs.Frame.VdrStays.{packed_stays, stays_alike}
use Rattle.cdf_edits.proofs.Rules.OfIndexes.{leaf_same}
use Rattle.cdf_index.proofs.Common.{Each-in, InOrder}
use Rattle.cdf_index.proofs.LeafRules.{index_order, index_rules}
use Rattle.cdf_index.specs.Replacing.{with_index}
use Rattle.cdf_leaves.proofs.Spares.{Spares}

-- ---- what each rule says of its leaf, and of its node

each_holds : (b records : List ℕ) (vdr : ℕ) (ls : List Leaf) → Hold (flat_map (leaf_rows b records vdr) ls) → Each (λ (l : Leaf). Hold (leaf_rows b records vdr l)) ls
each_holds b records vdr [] h = tt
each_holds b records vdr (l ∷ ls) h = let p = Hold-split (leaf_rows b records vdr l) (flat_map (leaf_rows b records vdr) ls) h in (p.0, each_holds b records vdr ls p.1)

mutual
  unfolding nodes_rows used_rows nodes_of lower_nodes

  rooms_hold : (b records : List ℕ) (low high : ℤ) (ns : Nodes) → Hold (nodes_rows b records low high ns) → (m : ℕ) → In m (nodes_of ns) → has_room b m ≡ true
  rooms_hold b records low high no_node h m i = absurd i
  rooms_hold b records low high (node place room es more) h m i =
      grind (arith, h.0, i, In-append m (lower_nodes es) (nodes_of more), Hold-split (used_rows b records place low high es) (nodes_rows b records (end_of low es) high more) h.1, rooms_below b records place low high es, rooms_hold b records (end_of low es) high more)

  rooms_below : (b records : List ℕ) (vxr : ℕ) (low high : ℤ) (es : Entries) → Hold (used_rows b records vxr low high es) → (m : ℕ) → In m (lower_nodes es) → has_room b m ≡ true
  rooms_below b records vxr low high no_entry h m i = absurd i
  rooms_below b records vxr low high (block first last place packed es) h m i = rooms_below b records vxr (with_sign last) high es h.1.1 m i
  rooms_below b records vxr low high (lower first last ns es) h m i =
      grind (arith, i, In-append m (nodes_of ns) (lower_nodes es), Hold-split (nodes_rows b records (number_before first) (with_sign last) ns) (used_rows b records vxr (with_sign last) high es) h.1, rooms_hold b records (number_before first) (with_sign last) ns, rooms_below b records vxr (with_sign last) high es)

-- a node that stays but for its used entries has room for as many
pub room_stays : (b now : List ℕ) (m : ℕ) → Spares b now m → has_room b m ≡ true → has_room now m ≡ true
room_stays b now m s h = rw (s.count_is, s.room_is, s.size_is) h

module _ {b now : List ℕ} {kind : Kind} {before : List VariableShape} {own : VariableShape} {after : List VariableShape} {index : Nodes} {new list : List ℕ} {marks : List Mark} {reborn : List ℕ} (good : Good b) (at : StandsAmong b kind before own after) (x : IndexEdit b now kind own index new list marks reborn) where
  abbrev s : Shape
  s = shape b

  -- a record that is kept has the type that it had
  is_a_now : (type m : ℕ) → In m s.records → Kept b now m → is_a now new type m ≡ is_a b s.records type m
  is_a_now type m i k = grind (arith, is_in-true m new (x.edit.sub m i), is_in-true m s.records i, type_kept b now m k.same k.long)

  block_there : (l : Leaf) → IsOneOf (leaves_of own.index) l → In l.place s.records
  block_there l i = behind_in good at l.place (block_behind own l.place (place_in (leaves_of own.index) l i))

  -- a leaf whose block is kept has its rules
  pub leaf_stays : (l : Leaf) → IsOneOf (leaves_of own.index) l → Kept b now l.place → LeafFits now new own.vdr l × Hold (leaf_rows now new own.vdr l)
  leaf_stays l i k =
      let was = block_there l i in
      let alike = stays_alike (file good at x) (stays good at x) in
      let fit = of_each (LeafFits b s.records own.vdr) (leaves_of own.index) l (fits good at).2 i in
      let rule = of_each (λ (a : Leaf). Hold (leaf_rows b s.records own.vdr a)) (leaves_of own.index) l (each_holds b s.records own.vdr (leaves_of own.index) (Hold-split (nodes_rows b s.records (negsuc 0) (pos record_number_limit) own.index) (flat_map (leaf_rows b s.records own.vdr) (leaves_of own.index)) (own_rules good at).1).1) i in
      let same = λ (type : ℕ). is_a_now type l.place was k in
      let block : is_block now new l.place ≡ true = grind (arith, fit.0, same 7, same 13) in (
        (block, block_fits_alike (file good at x) alike l l.packed k fit.1),
        subst Hold (sym (leaf_same b now (file good at x) own.vdr own.vdr (packed_stays (file good at x) (stays good at x)) (plain_alike (file good at x) alike) s.records new (sound good at).has_shape.fixed l same k rule)) rule,
      )

  pub cpr_stays : (m : ℕ) → In m own.cpr → is_a now new cpr_type m ≡ true
  cpr_stays m i =
      let was = behind_in good at m (cpr_behind own m i) in
      let is = Each-in (λ c. is_a b s.records cpr_type c ≡ true) own.cpr (fits good at).3 m i in
      is_a_now cpr_type m was (cpr_kept good at x m i) ∙ is

  pub own_fits : (m : ℕ) → In m (nodes_of own.index) → NodeFits b m
  own_fits m i = Each-in (NodeFits b) (nodes_of own.index) (fits good at).1 m i

  own_room : (m : ℕ) → In m (nodes_of own.index) → has_room b m ≡ true
  own_room = rooms_hold b s.records (negsuc 0) (pos record_number_limit) own.index (Hold-split (nodes_rows b s.records (negsuc 0) (pos record_number_limit) own.index) (flat_map (leaf_rows b s.records own.vdr) (leaves_of own.index)) (own_rules good at).1).0

  pub own_order : InOrder 0 record_number_limit own.index
  own_order = index_order b s.records own.vdr own.index (own_rules good at).1

  module _ (nodes_are : nodes_of index ≡ nodes_of own.index) (nodes : (m : ℕ) → In m (nodes_of own.index) → Spares b now m) (leaves : (l : Leaf) → IsOneOf (leaves_of index) l → LeafFits now new own.vdr l × Hold (leaf_rows now new own.vdr l)) where
    fits_still : (m : ℕ) → In m (nodes_of index) → NodeFits now m
    fits_still m i = let j = subst (In m) nodes_are i in let n = nodes m j in let f = own_fits m j in (omega (arith, n.size_is, n.room_is, f.0), omega (arith, n.used_is, n.room_is, f.1))

    pub all_fit : VariableFits now new (with_index own index)
    all_fit = (
      rw (vdr_size good at x, end_stays (file good at x) (stays good at x)) (fits good at).0,
      each (NodeFits now) (nodes_of index) fits_still,
      each_of (LeafFits now new own.vdr) (leaves_of index) (λ l i. (leaves l i).0),
      each (λ m. is_a now new cpr_type m ≡ true) own.cpr cpr_stays,
    )

    pub all_ruled : InOrder 0 record_number_limit index → Hold (index_rows now new own.vdr index)
    all_ruled order = index_rules now new own.vdr index order (λ m i. (let j = subst (In m) nodes_are i in room_stays b now m (nodes m j) (own_room m j))) (λ l i. (let r = leaves l i in (r.0.0, r.1)))
