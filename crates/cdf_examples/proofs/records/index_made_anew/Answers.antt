use Rattle.cdf_examples.proofs.Common.{chain_on, content, cover, entries_below, entries_in, entries_on, entry_firsts, entry_leaves, firsts_of, leaves_of, levels_on, lower_nodes, nodes_above, nodes_at, nodes_below, nodes_of, nodes_on, nodes_rows, records_file, refl, reindexed_file, run_script, shape, tiles_from, used_rows, widest, widest_below}
use Rattle.cdf_examples.proofs.Tests.{keeps_rules}
use Rattle.cdf_examples.proofs.records.index_made_anew.Goals as goal

pub returns : goal.returns
unfolding records_file reindexed_file shape tiles_from chain_on content nodes_of lower_nodes leaves_of entry_leaves entries_on nodes_on levels_on nodes_rows used_rows run_script entries_in entries_below widest widest_below nodes_above firsts_of entry_firsts cover nodes_at nodes_below
returns c = record { length = refl; shape = refl; owned = refl; space = refl; content = refl; rules = keeps_rules reindexed_file refl; made = refl; acts = refl; room = refl }
