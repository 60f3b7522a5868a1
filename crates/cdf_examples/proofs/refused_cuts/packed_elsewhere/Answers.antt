use Rattle.cdf_examples.proofs.Common.{Refused, VariableShape, [], block, chain_on, content, cut_entries, cut_nodes, delete_r, entries_on, entries_outline, entry_leaves, found_z, leaves_of, levels_on, lower_nodes, no_entry, nodes_of, nodes_on, nodes_rows, one_node, outline, packed_elsewhere_file, packed_stays_file, pos, r_data, refl, replicate, shape, sized_nodes, sized_nodes_below, tiles_from, true, two_packed_file, used_rows, ◌∷◌}
use Rattle.cdf_examples.proofs.Tests.{keeps_rules}
use Rattle.cdf_examples.proofs.Refusing.{unequal}
use Rattle.cdf_examples.proofs.refused_cuts.packed_elsewhere.Goals as goal

refused : Refused two_packed_file (delete_r 0 1) packed_elsewhere_file
unfolding two_packed_file packed_elsewhere_file shape content tiles_from chain_on nodes_of lower_nodes leaves_of entry_leaves entries_on nodes_on levels_on cut_nodes cut_entries outline entries_outline sized_nodes sized_nodes_below
refused acts claim =
    let before : VariableShape = record { vdr = 404; index = one_node 812 7 (block 0 0 784 true (block 1 2 952 true no_entry)); cpr = 756 ∷ [] } in
    let after : VariableShape = record { vdr = 404; index = one_node 812 7 (block 0 0 784 true no_entry); cpr = 756 ∷ [] } in
    let p = claim.does (found_z (r_data (pos 2) ((0, replicate 40 0) ∷ (1, replicate 40 0) ∷ (2, replicate 40 0) ∷ []))) before after (record { named = refl; before = refl; after = refl }) in
    unequal 784 952 refl (p.blocks.1.0.0 refl).placed.0

pub returns : goal.returns
unfolding packed_elsewhere_file packed_stays_file shape content tiles_from chain_on nodes_of lower_nodes leaves_of entry_leaves entries_on nodes_on levels_on nodes_rows used_rows
returns c = record {
  rules = keeps_rules packed_elsewhere_file refl;
  content = refl;
  refused = refused;
}
