use Rattle.cdf_examples.proofs.Common.{FullFromLeft, Refused, Shape, [], ap, chain_on, codes, entry_leaves, from_the_right_file, from_the_right_index, leaves_of, nodes_at, nodes_below, refl, reindex_w, shape, subst, true, w_shape, wide_node_file, wide_node_index, ◌∷◌, ◌≡◌}
use Rattle.cdf_examples.proofs.Refusing.{unequal}
use Rattle.cdf_examples.proofs.Reindexing.{has_gap, no_gap, makes_none}
use Rattle.cdf_examples.proofs.WideNodes.{reindexed_records, reindexed_shape, names_w, wide_index_is}
use Rattle.cdf_examples.proofs.Walking.{shape_by}
use Rattle.cdf_examples.proofs.refused_indexes.not_from_the_left.Goals as goal

index : (shape from_the_right_file).z_variables ≡ w_shape from_the_right_index ∷ []
unfolding from_the_right_file chain_on
index = ap (λ (s : Shape). s.z_variables) (shape_by from_the_right_file 5817 reindexed_records (reindexed_shape from_the_right_index) refl refl refl)

gap : has_gap (nodes_at 1 from_the_right_index) ≡ true
unfolding nodes_at nodes_below
gap = refl

refused : Refused wide_node_file reindex_w from_the_right_file
refused acts claim =
    makes_none wide_node_file from_the_right_file (codes "W") acts (λ index. has_gap (nodes_at 1 index)) (λ v v'. no_gap wide_node_file from_the_right_file v v' acts 1)
    (w_shape wide_node_index) (w_shape from_the_right_index) names_w wide_index_is index gap claim.does

pub returns : goal.returns
unfolding leaves_of entry_leaves
returns c = record {
  law = λ b now before after acts levels first second are made. unequal 1 64 refl (subst FullFromLeft are (made.filled.full levels)).0;
  index = index;
  leaves = refl;
  refused = refused;
}
