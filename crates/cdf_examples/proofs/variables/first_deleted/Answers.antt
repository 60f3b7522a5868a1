use Rattle.cdf_examples.proofs.Common.{chain_on, content, cover, digits, entries_below, entries_in, entries_on, entry_firsts, entry_leaves, firsts_of, leaves_of, levels_on, lower_nodes, nodes_above, nodes_of, nodes_on, nodes_rows, refl, run_script, shape, three_variables, tiles_from, two_variables, used_rows, widest, widest_below}
use Rattle.cdf_examples.proofs.Tests.{keeps_rules}
use Rattle.cdf_examples.proofs.variables.first_deleted.Goals as goal

pub returns : goal.returns
unfolding three_variables two_variables shape tiles_from chain_on content nodes_of lower_nodes leaves_of entry_leaves entries_on nodes_on levels_on nodes_rows used_rows run_script digits entries_in entries_below widest widest_below nodes_above firsts_of entry_firsts cover
returns c = record { length = refl; shape = refl; owned = refl; space = refl; content = refl; rules = keeps_rules two_variables refl; made = refl; replies = refl; room = refl }
