-- The index of a variable of a good image is one that can be searched.
use Rattle.cdf_index.proofs.Common.{by_shape, Each-map, IsRuled, all_ruled, vdrs, vdr_vxr_head, levels_complete, index_rows, AreInOrder, AreTiles, Each, Each-split, Entries, HasIndex, HasVariable, Hold, Hold-split, InOrder, IsBlock, IsGoodImage, IsIndex, IsSound, LeafFits, List, NodeFits, Nodes, Shape, VariableFits, VariableShape, [], ap, arith, before_is, before_number, between, block, end_of, flat_map, index_at, leaf_rows, leaves_of, length, lower, negsuc, no_entry, no_node, node, nodes_of, nodes_rows, number, number_before, past_entries, pos, record_number_limit, refl, sound, subst, suc, tiles, tiles_are, used_rows, variables, with_sign, ℕ, ◌++◌, ◌∷◌, ◌≡◌}
use Rattle.cdf_format.specs.IndexWalk.{nodes_met}

module _ (b records : List ℕ) where
  mutual
    unfolding nodes_rows used_rows InOrder AreInOrder

    pub order_from : (low high : ℕ) (nodes : Nodes) → Hold (nodes_rows b records (before_number low) (pos high) nodes) → InOrder low high nodes
    order_from low high no_node h = tt
    order_from low high (node place room entries more) h =
        let p = Hold-split (used_rows b records place (before_number low) (pos high) entries) (nodes_rows b records (end_of (before_number low) entries) (pos high) more) h.1 in
        grind (arith, p.1, entries_order_from place low high entries p.0, order_from (past_entries low entries) high more)

    entries_order_from : (vxr low high : ℕ) (entries : Entries) → Hold (used_rows b records vxr (before_number low) (pos high) entries) → AreInOrder low high entries × (end_of (before_number low) entries ≡ before_number (past_entries low entries))
    entries_order_from vxr low high no_entry h = (tt, refl)
    entries_order_from vxr low high (block first last place packed entries) h =
        grind (arith, h.1.1, between low high first last h.1.0, entries_order_from vxr (suc last) high entries)
    entries_order_from vxr low high (lower first last nodes entries) h =
        let p = Hold-split (nodes_rows b records (number_before first) (with_sign last) nodes) (used_rows b records vxr (with_sign last) (pos high) entries) h.1 in
        grind (arith, p.0, p.1, between low high first last h.0, before_is first, order_from first last nodes, entries_order_from vxr (suc last) high entries)

-- the rules of its index hold
pub index_ruled : (b : List ℕ) (s : Shape) (before : List VariableShape) (v : VariableShape) (after : List VariableShape) → IsGoodImage b s → variables s ≡ before ++ v ∷ after → Hold (index_rows b s.records v.vdr v.index)
index_ruled b s before v after good all =
    let g = by_shape b s good in
    (Each-split (IsRuled b s.records) before (v ∷ after) (subst (Each (IsRuled b s.records)) all (all_ruled b s.records (vdrs (variables s)) (variables s) g.of_variables g.indexes))).1.0.1

-- nodes that are an index, in order, are the one that a link leads to
pub found_index : {b : List ℕ} {at : ℕ} {ns : Nodes} → AreTiles b 8 (length b) (tiles b) → IsIndex b (tiles b) at ns → Each (NodeFits b) (nodes_of ns) → Each (IsBlock b) (leaves_of ns) → InOrder 0 record_number_limit ns → HasIndex b at × (index_at b at ≡ ns)
found_index {b = b} {at = at} {ns = ns} tiled x fits blocks order =
    let same : index_at b at ≡ ns = ap nodes_met (levels_complete b (tiles b) (length b) tiled 8 [] 0 at ns x.link_is x.has_nodes x.once) in
    (record { tiled = tiled; index = rw same x; fits = rw same fits; blocks = rw same blocks; order = rw same order }, same)

pub good_index : (b : List ℕ) (s : Shape) (before : List VariableShape) (v : VariableShape) (after : List VariableShape) → IsGoodImage b s → IsSound b s → variables s ≡ before ++ v ∷ after → HasIndex b (number b v.vdr vdr_vxr_head) × (index_at b (number b v.vdr vdr_vxr_head) ≡ v.index)
good_index b s before v after good sound all =
    let t = tiles_are b s good.has_shape in
    let has = (Each-split (HasVariable b s.records) before (v ∷ after) (subst (Each (HasVariable b s.records)) all good.has_shape.have_variables)).1.0 in
    let fits = (Each-split (VariableFits b s.records) before (v ∷ after) (subst (Each (VariableFits b s.records)) all sound.variables_fit)).1.0 in
    let order = order_from b s.records 0 record_number_limit v.index (Hold-split (nodes_rows b s.records (negsuc 0) (pos record_number_limit) v.index) (flat_map (leaf_rows b s.records v.vdr) (leaves_of v.index)) (index_ruled b s before v after good all)).0 in
    found_index (rw t good.has_shape.tiled) (rw t has.indexed) fits.1 (Each-map (LeafFits b s.records v.vdr) (IsBlock b) (λ leaf h. rw t h.0) (leaves_of v.index) fits.2) order
