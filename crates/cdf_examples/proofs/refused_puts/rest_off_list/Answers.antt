use Rattle.cdf_examples.proofs.Common.{Refused, VariableShape, [], block, chain_on, codes, content, entries_on, entry_leaves, false, found_z, inl, leaves_of, levels_on, lower_nodes, negsuc, new_room, no_entry, no_node, nodes_of, nodes_on, nodes_rows, one_node, put_t, refl, rest_listed_file, rest_unlisted_file, shape, spare_file, t_data, t_shape, tiles_from, used_rows, with_leaf}
use Rattle.cdf_examples.proofs.Tests.{keeps_rules}
use Rattle.cdf_examples.proofs.Refusing.{none_unlisted}
use Rattle.cdf_examples.proofs.PutLemmas.{puts_only}
use Rattle.cdf_examples.proofs.refused_puts.rest_off_list.Goals as goal

refused : Refused spare_file (put_t 0 (codes "7")) rest_unlisted_file
unfolding spare_file rest_unlisted_file shape content tiles_from chain_on nodes_of lower_nodes leaves_of entry_leaves entries_on nodes_on levels_on new_room with_leaf
refused acts claim =
    let before : VariableShape = t_shape no_node in
    let after : VariableShape = t_shape (one_node 848 7 (block 0 3 748 false no_entry)) in
    let p = claim.does (found_z (t_data (negsuc 0) [])) before after (record { named = refl; before = refl; after = refl }) in
    let puts = puts_only spare_file rest_unlisted_file (t_data (negsuc 0) []) 0 before after acts p.index refl in
    none_unlisted claim.acts_follow 776 (inl refl) refl refl

pub returns : goal.returns
unfolding rest_unlisted_file rest_listed_file shape content tiles_from chain_on nodes_of lower_nodes leaves_of entry_leaves entries_on nodes_on levels_on nodes_rows used_rows
returns c = record {
  rules = keeps_rules rest_unlisted_file refl;
  content = refl;
  refused = refused;
}
