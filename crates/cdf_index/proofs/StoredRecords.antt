-- The record of a number, in the leaf that has it.
use Rattle.cdf_index.proofs.Common.{is_little, item_at, turned, option_map, IsGoodImage, IsSound, Leaf, List, Option, Shape, VariableShape, arith, nat_tests, drop, index_ascends, leaf_of, leaves_of, plain_bytes, record_bytes, record_is, record_of_leaf, record_past, records_in, sound, stored_in, take, type_of_variable, variables, ℕ, ◌*◌, ◌++◌, ◌-◌, ◌∷◌, ◌≡◌}
use Rattle.cdf_index.proofs.GoodIndex.{index_ruled}

of_leaf : (b : List ℕ) (vdr rec : ℕ) (found : Option Leaf) → option_map (turned (type_of_variable b vdr) (is_little b)) (option_map (λ (l : Leaf). take (record_bytes b vdr) (drop ((rec - l.first) * record_bytes b vdr) (plain_bytes b vdr l))) found) ≡ option_map (record_of_leaf b vdr rec) found
of_leaf b vdr rec found = grind arith

pub stored_record : (b : List ℕ) (s : Shape) (before : List VariableShape) (v : VariableShape) (after : List VariableShape) → IsGoodImage b s → IsSound b s → variables s ≡ before ++ v ∷ after
    → (rec : ℕ) → item_at rec (records_in b v.vdr (leaves_of v.index)) ≡ stored_in b v.vdr rec (leaf_of rec (leaves_of v.index))
stored_record b s before v after good sound all rec =
    let ascend = index_ascends b s.records v.vdr v.index (index_ruled b s before v after good all) in
    grind (arith, nat_tests, record_is b v.vdr (leaves_of v.index) ascend rec, record_past b v.vdr (leaves_of v.index) ascend rec, of_leaf b v.vdr rec (leaf_of rec (leaves_of v.index)))
