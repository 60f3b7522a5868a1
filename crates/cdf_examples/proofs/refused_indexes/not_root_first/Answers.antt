use Rattle.cdf_examples.proofs.Common.{Refused, Shape, [], ap, chain_on, codes, entry_leaves, leaves_of, levels_up, nodes_at, nodes_below, refl, reindex_w, root_first_file, root_first_index, shape, true, w_shape, wide_node_file, wide_node_index, ◌∷◌, ◌≡◌}
use Rattle.cdf_examples.proofs.Reindexing.{first_at_end, begins_elsewhere, begins_at_end, makes_none}
use Rattle.cdf_examples.proofs.WideNodes.{reindexed_records, reindexed_shape, names_w, wide_index_is, wide_end_is, none_unused}
use Rattle.cdf_examples.proofs.Walking.{shape_by}
use Rattle.cdf_examples.proofs.refused_indexes.not_root_first.Goals as goal

index : (shape root_first_file).z_variables ≡ w_shape root_first_index ∷ []
unfolding root_first_file chain_on
index = ap (λ (s : Shape). s.z_variables) (shape_by root_first_file 5817 reindexed_records (reindexed_shape root_first_index) refl refl refl)

elsewhere : begins_elsewhere 2661 (levels_up 7 root_first_index) ≡ true
unfolding nodes_at nodes_below
elsewhere = refl

refused : Refused wide_node_file reindex_w root_first_file
refused acts claim =
    makes_none wide_node_file root_first_file (codes "W") acts (λ index. begins_elsewhere 2661 (levels_up 7 index))
    (λ v v' test. begins_at_end wide_node_file root_first_file v v' acts 2661 wide_end_is test none_unused claim.acts_follow)
    (w_shape wide_node_index) (w_shape root_first_index) names_w wide_index_is index elsewhere claim.does

pub returns : goal.returns
unfolding leaves_of entry_leaves
returns c = record {
  law = λ b now before after acts lowest more levels none other follow made. other (first_at_end b now before after acts lowest more levels none follow made);
  index = index;
  leaves = refl;
  refused = refused;
}
