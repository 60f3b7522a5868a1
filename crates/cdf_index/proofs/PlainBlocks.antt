-- The blocks that the index of a variable of a good image names are not packed, where the variable is not compressed.
use Rattle.cdf_index.proofs.Common.{Hold, Hold-split, by_shape, Each, Each-append, Each-split, HasNodes, HasVariable, IsGoodImage, IsSound, Leaf, List, Names, [], Nodes, Shape, Some, VariableFits, VariableShape, arith, covers, cvvr_type, entry_leaves, false, flat_map, found_in, index_rows, is_linkable, leaf_of, leaves_of, of_each, range, sound, subst, type_at, variables, vxr_type, ℕ, ◌++◌, ◌==◌, ◌∷◌, ◌≡◌}
use Rattle.cdf_format.specs.Shape.{is_compressed}
use Rattle.cdf_edits.proofs.Edits.PlainVariables.{IsPlainBlock, is_uncompressed}
use Rattle.cdf_index.proofs.ByParts.{nodes_from}

-- a leaf names a block
abbrev pub Named : List ℕ → List ℕ → Leaf → Type 0
Named now records leaf = (is_linkable now records vxr_type leaf.place ≡ false) × ((type_at now leaf.place == cvvr_type) ≡ leaf.packed)

pub leaves_named : (now records : List ℕ) (levels : ℕ) (nodes : Nodes) → HasNodes now records levels nodes → Each (Named now records) (leaves_of nodes)
unfolding HasNodes Names leaves_of entry_leaves
leaves_named now records =
    nodes_from (λ levels es. Names now records levels es → Each (Named now records) (entry_leaves es)) (grind (arith, Each-append))

-- the rules on the index of a variable among others
rules_of_one : (b : List ℕ) (s : Shape) (before : List VariableShape) (v : VariableShape) (after : List VariableShape) → Hold (flat_map (λ (x : VariableShape). index_rows b s.records x.vdr x.index) (before ++ v ∷ after)) → Hold (index_rows b s.records v.vdr v.index)
rules_of_one b s [] v after rules = (Hold-split (index_rows b s.records v.vdr v.index) _ rules).0
rules_of_one b s (x ∷ before) v after rules = rules_of_one b s before v after (Hold-split (index_rows b s.records x.vdr x.index) _ rules).1

pub plain_block : (b : List ℕ) (s : Shape) (before : List VariableShape) (v : VariableShape) (after : List VariableShape) → IsGoodImage b s → IsSound b s → variables s ≡ before ++ v ∷ after → is_compressed b v.vdr ≡ false
    → (rec : ℕ) (leaf : Leaf) → leaf_of rec (leaves_of v.index) ≡ Some leaf → leaf.packed ≡ false
plain_block b s before v after good sound all loose rec leaf found =
    let has = (Each-split (HasVariable b s.records) before (v ∷ after) (subst (Each (HasVariable b s.records)) all good.has_shape.have_variables)).1.0 in
    let fits = (Each-split (VariableFits b s.records) before (v ∷ after) (subst (Each (VariableFits b s.records)) all sound.variables_fit)).1.0 in
    let rules = rules_of_one b s before v after (subst (λ (vs : List VariableShape). Hold (flat_map (λ (x : VariableShape). index_rows b s.records x.vdr x.index) vs)) all (by_shape b s good).indexes) in
    let one = (found_in (λ (l : Leaf). covers rec (range l.first l.last)) (leaves_of v.index) leaf found).0 in
    (of_each (IsPlainBlock b s.records) (leaves_of v.index) leaf (is_uncompressed v has fits rules loose).plain_blocks one).1
