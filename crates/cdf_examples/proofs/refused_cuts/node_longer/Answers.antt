use Rattle.cdf_examples.proofs.Common.{Among, Refused, VariableShape, block, chain_on, content, cut_entries, cut_nodes, delete_t, entries_on, entries_outline, entry_leaves, false, found_z, inl, inr, last_deleted_file, leaves_of, levels_on, longer_node_file, lower_nodes, no_entry, nodes_of, nodes_on, nodes_rows, one_node, outline, records_data, records_file, records_index, refl, shape, sized_nodes, sized_nodes_below, t_shape, taken, tiles_from, used_rows}
use Rattle.cdf_examples.proofs.Tests.{keeps_rules}
use Rattle.cdf_examples.proofs.Refusing.{is_taken_if}
use Rattle.cdf_examples.proofs.CutLemmas.{each_needed, not_needed}
use Rattle.cdf_examples.proofs.refused_cuts.node_longer.Goals as goal

refused : Refused records_file (delete_t 3 3) longer_node_file
unfolding records_file longer_node_file shape content tiles_from chain_on nodes_of lower_nodes leaves_of entry_leaves entries_on nodes_on levels_on cut_nodes cut_entries outline entries_outline sized_nodes sized_nodes_below
refused acts claim =
    let before : VariableShape = t_shape records_index in
    let after : VariableShape = t_shape (one_node 776 7 (block 0 2 748 false no_entry)) in
    let p = claim.does (found_z records_data) before after (record { named = refl; before = refl; after = refl }) in
    let took : Among (776, 156) (taken acts) = is_taken_if claim.acts_follow 776 (inr (inr (inr (inr (inl refl))))) refl in
    not_needed records_data after.index (776, 156) refl refl (each_needed records_data after.index (taken acts) (776, 156) p.cuts.takes took)

pub returns : goal.returns
unfolding longer_node_file last_deleted_file shape content tiles_from chain_on nodes_of lower_nodes leaves_of entry_leaves entries_on nodes_on levels_on nodes_rows used_rows
returns c = record {
  rules = keeps_rules longer_node_file refl;
  content = refl;
  refused = refused;
}
