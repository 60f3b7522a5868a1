use Rattle.cdf_examples.proofs.Common.{Refused, VariableShape, ap, block, chain_on, codes, content, entries_on, entry_leaves, false, found_z, leaves_of, levels_on, lower, lower_nodes, new_room, new_room_below, no_entry, nodes_of, nodes_on, nodes_rows, one_node, put_t, records_data, records_index, refl, shape, t_shape, tiles_from, too_wide_file, two_levels_file, used_rows, widened_file, with_leaf, with_lower}
use Rattle.cdf_examples.proofs.Tests.{keeps_rules}
use Rattle.cdf_examples.proofs.Refusing.{unequal, first_last}
use Rattle.cdf_examples.proofs.PutLemmas.{first_take, puts_only}
use Rattle.cdf_examples.proofs.refused_puts.entry_too_wide.Goals as goal

refused : Refused two_levels_file (put_t 4 (codes "5")) too_wide_file
unfolding two_levels_file too_wide_file shape content tiles_from chain_on nodes_of lower_nodes leaves_of entry_leaves entries_on nodes_on levels_on new_room with_leaf with_lower new_room_below
refused acts claim =
    let before : VariableShape = t_shape (one_node 916 7 (lower 0 3 records_index no_entry)) in
    let after : VariableShape = t_shape (one_node 916 7 (lower 0 2147483646 (one_node 776 7 (block 0 3 748 false (block 4 7 1056 false no_entry))) no_entry)) in
    let p = claim.does (found_z records_data) before after (record { named = refl; before = refl; after = refl }) in
    let puts = puts_only two_levels_file too_wide_file records_data 4 before after acts p.index refl in
    unequal 7 2147483646 refl (ap first_last (first_take 28 _ acts puts).rest.1.1)

pub returns : goal.returns
unfolding too_wide_file widened_file shape content tiles_from chain_on nodes_of lower_nodes leaves_of entry_leaves entries_on nodes_on levels_on nodes_rows used_rows
returns c = record {
  rules = keeps_rules too_wide_file refl;
  content = refl;
  refused = refused;
}
