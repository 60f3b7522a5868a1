use Rattle.cdf_examples.proofs.Common.{Refused, VariableShape, [], ap, bare_node_file, block, chain_on, content, cut_entries, cut_nodes, delete_t, entries_on, entries_outline, entry_leaves, false, found_z, high_first, leaves_of, levels_on, lower_nodes, no_entry, node, node_freed_file, nodes_of, nodes_on, nodes_rows, one_node, outline, pad_high_first, pos, refl, shape, sized_nodes, sized_nodes_below, t_data, t_shape, tiles_from, two_nodes_file, used_rows, ◌∷◌}
use Rattle.cdf_examples.proofs.Tests.{keeps_rules}
use Rattle.cdf_examples.proofs.Refusing.{unequal}
use Rattle.cdf_examples.proofs.Refusing.{chain_count}
use Rattle.cdf_examples.proofs.refused_cuts.node_bare.Goals as goal

refused : Refused two_nodes_file (delete_t 4 7) bare_node_file
unfolding two_nodes_file bare_node_file shape content tiles_from chain_on nodes_of lower_nodes leaves_of entry_leaves entries_on nodes_on levels_on cut_nodes cut_entries outline entries_outline sized_nodes sized_nodes_below
refused acts claim =
    let before : VariableShape = t_shape (node 776 7 (block 0 3 748 false no_entry) (one_node 944 7 (block 4 7 916 false no_entry))) in
    let after : VariableShape = t_shape (node 776 7 (block 0 3 748 false no_entry) (one_node 944 7 no_entry)) in
    let p = claim.does (found_z (t_data (pos 7) ((0, high_first 7) ∷ (1, pad_high_first) ∷ (2, pad_high_first) ∷ (3, high_first 9) ∷ (4, high_first 7) ∷ (5, pad_high_first) ∷ (6, pad_high_first) ∷ (7, high_first 9) ∷ []))) before after (record { named = refl; before = refl; after = refl }) in
    unequal 2 1 refl (ap chain_count p.cuts.index_is)

pub returns : goal.returns
unfolding bare_node_file node_freed_file shape content tiles_from chain_on nodes_of lower_nodes leaves_of entry_leaves entries_on nodes_on levels_on nodes_rows used_rows
returns c = record {
  rules = keeps_rules bare_node_file refl;
  content = refl;
  refused = refused;
}
