use Rattle.cdf_examples.proofs.Common.{chain_on, entries_on, entry_leaves, leaves_of, levels_on, lower_nodes, nodes_of, nodes_on, nodes_rows, refl, shape, tiles_from, used_rows, usual_image}
use Rattle.cdf_examples.proofs.usual.records.Goals as goal

pub returns : goal.returns
unfolding usual_image shape tiles_from chain_on nodes_of lower_nodes leaves_of entry_leaves entries_on nodes_on levels_on nodes_rows used_rows
returns c = record { length = refl; eof = refl; shape = refl; owned = refl; space = refl }
