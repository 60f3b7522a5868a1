use Rattle.cdf_examples.proofs.Common.{Refused, VariableShape, [], ap, block, chain_on, content, cut_entries, cut_nodes, delete_t, entries_on, entries_outline, entry_leaves, false, first_cut_file, found_z, high_first, leaves_of, levels_on, lower_nodes, no_entry, nodes_of, nodes_on, nodes_rows, one_node, outline, past_cut_file, pos, records_index, refl, shape, sized_nodes, sized_nodes_below, t_data, t_shape, tiles_from, two_stored_file, used_rows, ◌∷◌}
use Rattle.cdf_examples.proofs.Tests.{keeps_rules}
use Rattle.cdf_examples.proofs.Refusing.{unequal, first_byte}
use Rattle.cdf_examples.proofs.refused_cuts.past_max_rec_cut.Goals as goal

refused : Refused two_stored_file (delete_t 0 0) past_cut_file
unfolding two_stored_file past_cut_file shape content tiles_from chain_on nodes_of lower_nodes leaves_of entry_leaves entries_on nodes_on levels_on cut_nodes cut_entries outline entries_outline sized_nodes sized_nodes_below
refused acts claim =
    let before : VariableShape = t_shape records_index in
    let after : VariableShape = t_shape (one_node 776 7 (block 0 2 748 false no_entry)) in
    let p = claim.does (found_z (t_data (pos 1) ((0, high_first 1) ∷ (1, high_first 2) ∷ []))) before after (record { named = refl; before = refl; after = refl }) in
    unequal 9 3 refl (ap first_byte (p.others_stay 2 refl refl))

pub returns : goal.returns
unfolding past_cut_file first_cut_file shape content tiles_from chain_on nodes_of lower_nodes leaves_of entry_leaves entries_on nodes_on levels_on nodes_rows used_rows
returns c = record {
  rules = keeps_rules past_cut_file refl;
  content = refl;
  refused = refused;
}
