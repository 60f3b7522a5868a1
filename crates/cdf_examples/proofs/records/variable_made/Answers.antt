use Rattle.cdf_examples.proofs.Common.{chain_on, content, cover, entries_below, entries_in, entries_on, entry_firsts, entry_leaves, firsts_of, leaves_of, levels_on, lower_nodes, new_file, nodes_above, nodes_of, nodes_on, nodes_rows, refl, run_script, shape, tiles_from, unblocked_file, used_rows, variable_file, widest, widest_below}
use Rattle.cdf_examples.proofs.Tests.{keeps_rules}
use Rattle.cdf_examples.proofs.records.variable_made.Goals as goal

pub returns : goal.returns
unfolding new_file unblocked_file variable_file shape tiles_from chain_on content nodes_of lower_nodes leaves_of entry_leaves entries_on nodes_on levels_on nodes_rows used_rows run_script entries_in entries_below widest widest_below nodes_above firsts_of entry_firsts cover
returns c = record { length = refl; shape = refl; content = refl; rules = keeps_rules variable_file refl; made = refl; room = refl; too_large = refl }
