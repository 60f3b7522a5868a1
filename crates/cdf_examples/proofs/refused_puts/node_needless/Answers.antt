use Rattle.cdf_examples.proofs.Common.{Refused, VariableShape, ap, block, chain_on, codes, content, entries_on, entry_leaves, false, found_z, leaves_of, levels_on, lower_nodes, needless_node_file, new_room, no_entry, node, nodes_of, nodes_on, nodes_rows, one_node, put_t, records_data, records_file, records_index, refl, second_block_file, shape, t_shape, tiles_from, used_rows, with_leaf}
use Rattle.cdf_examples.proofs.Tests.{keeps_rules}
use Rattle.cdf_examples.proofs.Refusing.{unequal, first_entries}
use Rattle.cdf_examples.proofs.PutLemmas.{first_take, puts_only}
use Rattle.cdf_examples.proofs.refused_puts.node_needless.Goals as goal

refused : Refused records_file (put_t 4 (codes "5")) needless_node_file
unfolding records_file needless_node_file shape content tiles_from chain_on nodes_of lower_nodes leaves_of entry_leaves entries_on nodes_on levels_on new_room with_leaf
refused acts claim =
    let before : VariableShape = t_shape records_index in
    let after : VariableShape = t_shape (node 776 7 (block 0 3 748 false no_entry) (one_node 944 7 (block 4 7 916 false no_entry))) in
    let p = claim.does (found_z records_data) before after (record { named = refl; before = refl; after = refl }) in
    let puts = puts_only records_file needless_node_file records_data 4 before after acts p.index refl in
    unequal 2 1 refl (ap first_entries (first_take 28 _ acts puts).rest.1.1)

pub returns : goal.returns
unfolding needless_node_file second_block_file shape content tiles_from chain_on nodes_of lower_nodes leaves_of entry_leaves entries_on nodes_on levels_on nodes_rows used_rows
returns c = record {
  rules = keeps_rules needless_node_file refl;
  content = refl;
  refused = refused;
}
