-- What is computed of the files of 65 leaves, once for all that speak of them.
use Rattle.cdf_examples.proofs.Common.{List, Nodes, Shape, [], ap, chain_on, codes, content, content_of, length, range_with_len, refl, shape, subst, sym, true, unused, variable_named, w_block_at, w_shape, wide_node_file, wide_node_index, ℕ, ◌++◌, ◌∷◌, ◌≡◌}
use Rattle.std.proofs.Common.{map}
use Rattle.cdf_examples.specs.OneVariable.{variable_shape}
use Rattle.cdf_examples.proofs.Reindexing.{names_first_z}
use Rattle.cdf_examples.proofs.Walking.{shape_by}

-- the records up to the old node
abbrev pub wide_records : List ℕ
wide_records = 8 ∷ 320 ∷ 404 ∷ map w_block_at (range_with_len 0 65) ++ 1593 ∷ []

abbrev pub wide_shape : Shape
wide_shape = variable_shape wide_records wide_node_index [] []

-- with three nodes behind the old one, which is unused
abbrev pub reindexed_records : List ℕ
reindexed_records = wide_records ++ 2661 ∷ 3713 ∷ 4765 ∷ []

abbrev pub reindexed_shape : Nodes → Shape
reindexed_shape index = variable_shape reindexed_records index [] (1593 ∷ [])

pub wide_end_is : length wide_node_file ≡ 2661
unfolding wide_node_file
wide_end_is = refl

pub wide_shape_is : shape wide_node_file ≡ wide_shape
unfolding wide_node_file chain_on
wide_shape_is = shape_by wide_node_file 2661 wide_records wide_shape refl refl refl

pub wide_index_is : (shape wide_node_file).z_variables ≡ w_shape wide_node_index ∷ []
wide_index_is = ap (λ (s : Shape). s.z_variables) wide_shape_is

pub names_w : names_first_z (variable_named (content wide_node_file) (codes "W")) ≡ true
unfolding wide_node_file content
names_w = subst (λ (s : Shape). names_first_z (variable_named (content_of wide_node_file s) (codes "W")) ≡ true) (sym wide_shape_is) refl

pub none_unused : unused wide_node_file (shape wide_node_file) ≡ []
none_unused = ap (unused wide_node_file) wide_shape_is
