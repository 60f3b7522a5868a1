use Rattle.cdf_examples.proofs.Common.{chain_on, content, cover, entries_below, entries_in, entries_on, entry_firsts, entry_leaves, firsts_of, leaves_of, levels_on, lower_nodes, nodes_of, nodes_on, nodes_rows, put, refl, run_script, shape, tiles_from, used_rows, usual_image, widest, widest_below}
use Rattle.cdf_examples.proofs.usual.record_put.Goals as goal

pub returns : goal.returns
unfolding usual_image put shape tiles_from chain_on content nodes_of lower_nodes leaves_of entry_leaves entries_on nodes_on levels_on nodes_rows used_rows run_script entries_in entries_below widest widest_below firsts_of entry_firsts cover
returns c = record { made = refl; room = refl; content = refl }
