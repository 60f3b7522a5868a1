use Rattle.cdf_examples.proofs.Common.{chain_on, content, cover, cut_entries, cut_nodes, entries_below, entries_in, entries_on, entry_firsts, entry_leaves, first_sparse_file, firsts_of, leaves_of, levels_on, lower_nodes, new_room, new_room_below, nodes_above, nodes_of, nodes_on, nodes_rows, refl, shape, sparse_file, tiles_from, used_rows, widest, widest_below, with_leaf, with_lower}
use Rattle.cdf_examples.proofs.Tests.{keeps_rules}
use Rattle.cdf_examples.proofs.sparse_records.blocks_cut.Goals as goal

pub returns : goal.returns
unfolding first_sparse_file shape tiles_from chain_on content nodes_of lower_nodes leaves_of entry_leaves entries_on nodes_on levels_on nodes_rows used_rows entries_in entries_below widest widest_below nodes_above firsts_of entry_firsts cover cut_nodes cut_entries with_leaf with_lower new_room new_room_below sparse_file
returns c = record { first_shape = refl; first_content = refl; first_rules = keeps_rules first_sparse_file refl; first_blocks = refl; blocks = refl; cut = refl; acts = (refl, (refl, (refl, refl))); room = refl }
