-- A block of a variable of a good image, not packed, has its records.
use Rattle.cdf_index.proofs.Common.{Each, Each-split, HoldsRecords, IsGoodImage, IsSound, LeafFits, Leaf as TreeLeaf, List, Shape, Some, VariableFits, VariableShape, arith, block_in, count_is, covers, covers_within, false, found_in, in_order, index_ascends, leaf_of, leaves_of, length, of_each, range, record_bytes, record_number_limit, seen, subst, suc, tile_lies, variables, ℕ, ◌++◌, ◌∷◌, ◌≡◌, ◌≤◌}
use Rattle.cdf_index.specs.declared.nodes.Leaf.{Leaf}
use Rattle.cdf_index.proofs.GoodIndex.{index_ruled}

pub good_block : (b : List ℕ) (s : Shape) (before : List VariableShape) (v : VariableShape) (after : List VariableShape) → IsGoodImage b s → IsSound b s → variables s ≡ before ++ v ∷ after
    → (rec : ℕ) (leaf : Leaf) → leaf_of rec (leaves_of v.index) ≡ Some (seen leaf) → leaf.packed ≡ false → HoldsRecords b leaf (record_bytes b v.vdr) × (leaf.first ≤ rec) × (rec ≤ leaf.last)
good_block b s before v after good sound all rec leaf found plain =
    let one = found_in (λ (l : TreeLeaf). covers rec (range l.first l.last)) (leaves_of v.index) (seen leaf) found in
    let has = covers_within rec (seen leaf) one.1 in
    let order = in_order 0 (suc record_number_limit) (leaves_of v.index) (index_ascends b s.records v.vdr v.index (index_ruled b s before v after good all)) (seen leaf) one.0 in
    let small : leaf.last ≤ record_number_limit = omega (arith, order.before) in
    let fit = of_each (LeafFits b s.records v.vdr) (leaves_of v.index) (seen leaf) ((Each-split (VariableFits b s.records) before (v ∷ after) (subst (Each (VariableFits b s.records)) all sound.variables_fit)).1.0).2 one.0 in
    let inside = (tile_lies b 8 (length b) s.records leaf.at good.has_shape.tiled (block_in b s.records leaf.at fit.0)).high in
    (record { plain = plain; ordered = order.ordered; small = small; inside = grind (arith, fit.1, inside, count_is (seen leaf) small order.ordered) }, has.0, has.1)
