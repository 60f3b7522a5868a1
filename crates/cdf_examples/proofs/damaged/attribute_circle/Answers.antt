use Rattle.cdf_examples.proofs.Common.{chain_on, circle_file, entries_on, entry_leaves, leaves_of, levels_on, lower_nodes, nodes_of, nodes_on, nodes_rows, refl, shape, tiles_from, used_rows}
use Rattle.cdf_examples.proofs.Tests.{breaks_first}
use Rattle.cdf_examples.proofs.damaged.attribute_circle.Goals as goal

pub returns : goal.returns
unfolding circle_file shape tiles_from chain_on nodes_of lower_nodes leaves_of entry_leaves entries_on nodes_on levels_on nodes_rows used_rows
returns c = record { verdict = breaks_first circle_file circle_file 5 2 728 refl }
