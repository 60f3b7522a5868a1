use Rattle.cdf_examples.proofs.Common.{chain_on, content, entries_on, entry_leaves, leaves_of, levels_on, lower_nodes, nodes_of, nodes_on, nodes_rows, refl, run_script, shape, three_variables, tiles_from, used_rows}
use Rattle.cdf_examples.proofs.Tests.{keeps_rules}
use Rattle.cdf_examples.proofs.variables.three_with_entries.Goals as goal

pub returns : goal.returns
unfolding three_variables shape tiles_from chain_on content nodes_of lower_nodes leaves_of entry_leaves entries_on nodes_on levels_on nodes_rows used_rows run_script
returns c = record { length = refl; shape = refl; content = refl; rules = keeps_rules three_variables refl; made = refl }
