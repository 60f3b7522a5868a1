use Rattle.cdf_examples.proofs.Common.{Refused, VariableShape, block, block_moved_file, chain_on, content, cut_entries, cut_nodes, delete_t, entries_on, entries_outline, entry_leaves, false, found_z, last_deleted_file, leaves_of, levels_on, lower_nodes, no_entry, nodes_of, nodes_on, nodes_rows, one_node, outline, records_data, records_file, records_index, refl, shape, sized_nodes, sized_nodes_below, t_shape, tiles_from, used_rows}
use Rattle.cdf_examples.proofs.Tests.{keeps_rules}
use Rattle.cdf_examples.proofs.Refusing.{unequal}
use Rattle.cdf_examples.proofs.refused_cuts.cut_block_moved.Goals as goal

refused : Refused records_file (delete_t 3 3) block_moved_file
unfolding records_file block_moved_file shape content tiles_from chain_on nodes_of lower_nodes leaves_of entry_leaves entries_on nodes_on levels_on cut_nodes cut_entries outline entries_outline sized_nodes sized_nodes_below
refused acts claim =
    let before : VariableShape = t_shape records_index in
    let after : VariableShape = t_shape (one_node 776 7 (block 0 2 916 false no_entry)) in
    let p = claim.does (found_z records_data) before after (record { named = refl; before = refl; after = refl }) in
    unequal 916 748 refl (p.cuts.stay.0.0 refl refl).0

pub returns : goal.returns
unfolding block_moved_file last_deleted_file shape content tiles_from chain_on nodes_of lower_nodes leaves_of entry_leaves entries_on nodes_on levels_on nodes_rows used_rows
returns c = record {
  rules = keeps_rules block_moved_file refl;
  content = refl;
  refused = refused;
}
