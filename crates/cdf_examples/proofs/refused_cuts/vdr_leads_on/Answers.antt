use Rattle.cdf_examples.proofs.Common.{Refused, [], block, chain_on, content, cut_entries, cut_nodes, delete_var_t, entries_on, entries_outline, entry_leaves, false, found_z, head_left_file, high_first, leaves_of, levels_on, lower_nodes, no_entry, nodes_of, nodes_on, nodes_rows, one_node, outline, pos, refl, shape, sized_nodes, sized_nodes_below, small_block_file, t_data, t_shape, tiles_from, used_rows, var_deleted_file, ◌∷◌}
use Rattle.cdf_examples.proofs.Tests.{keeps_rules}
use Rattle.cdf_examples.proofs.Refusing.{unequal}
use Rattle.cdf_examples.proofs.refused_cuts.vdr_leads_on.Goals as goal

refused : Refused small_block_file delete_var_t head_left_file
unfolding small_block_file head_left_file shape content tiles_from chain_on nodes_of lower_nodes leaves_of entry_leaves entries_on nodes_on levels_on cut_nodes cut_entries outline entries_outline sized_nodes sized_nodes_below
refused acts claim =
    let p = claim.does (found_z (t_data (pos 2) ((0, high_first 1) ∷ (1, high_first 2) ∷ (2, high_first 3) ∷ []))) (t_shape (one_node 772 7 (block 0 2 748 false no_entry))) refl refl in
    unequal 772 0 refl p.emptied.0

pub returns : goal.returns
unfolding head_left_file var_deleted_file shape content tiles_from chain_on nodes_of lower_nodes leaves_of entry_leaves entries_on nodes_on levels_on nodes_rows used_rows
returns c = record {
  rules = keeps_rules head_left_file refl;
  content = refl;
  refused = refused;
}
