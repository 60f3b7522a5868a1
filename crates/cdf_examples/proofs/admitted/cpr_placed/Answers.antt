use Rattle.cdf_examples.proofs.Common.{ActsFollow, AllKeep, Does, SetsCompress, Took, [], allowances, arith, chain_on, codes, compress_t, content, cover, cpr_placed_file, cut_entries, cut_nodes, digits, entries_below, entries_in, entries_on, entries_outline, entry_firsts, entry_leaves, firsts_of, found_z, leaves_of, levels_on, lower_nodes, negsuc, new_room, new_room_below, no_node, nodes_above, nodes_of, nodes_on, nodes_rows, outline, owned, refl, run_script, shape, sized_nodes, sized_nodes_below, t_data, t_shape, tiles_from, true, uncompressed_file, used_rows, widest, widest_below, with_leaf, with_lower, ◌∷◌}
use Rattle.cdf_examples.proofs.Tests.{keeps_rules}
use Rattle.cdf_examples.proofs.Deciding.{acts_follow_if, all_keep_if}
use Rattle.cdf_examples.proofs.Deciding.{of_variable}
use Rattle.cdf_examples.proofs.admitted.cpr_placed.Goals as goal

follow : ActsFollow uncompressed_file cpr_placed_file (Took 748 28 ∷ [])
unfolding uncompressed_file cpr_placed_file shape content tiles_from chain_on nodes_of lower_nodes leaves_of entry_leaves entries_on nodes_on levels_on
follow = acts_follow_if uncompressed_file cpr_placed_file (Took 748 28 ∷ []) refl refl refl refl refl refl refl

keep : AllKeep uncompressed_file cpr_placed_file (allowances uncompressed_file (content uncompressed_file) (shape uncompressed_file) compress_t) (Took 748 28 ∷ []) (owned uncompressed_file (shape uncompressed_file))
unfolding uncompressed_file cpr_placed_file shape content tiles_from chain_on nodes_of lower_nodes leaves_of entry_leaves entries_on nodes_on levels_on
keep = all_keep_if uncompressed_file cpr_placed_file (allowances uncompressed_file (content uncompressed_file) (shape uncompressed_file) compress_t) (Took 748 28 ∷ []) (owned uncompressed_file (shape uncompressed_file)) refl

does : Does uncompressed_file compress_t cpr_placed_file (Took 748 28 ∷ [])
unfolding uncompressed_file cpr_placed_file shape content tiles_from chain_on nodes_of lower_nodes leaves_of entry_leaves entries_on nodes_on levels_on entries_in entries_below widest widest_below nodes_above firsts_of entry_firsts cover new_room with_leaf new_room_below with_lower cut_nodes cut_entries outline entries_outline sized_nodes sized_nodes_below
does = of_variable uncompressed_file cpr_placed_file (codes "T") (λ found v v'. SetsCompress uncompressed_file cpr_placed_file true v v' (Took 748 28 ∷ [])) (found_z (t_data (negsuc 0) [])) (t_shape no_node) (record { vdr = 404; index = no_node; cpr = 748 ∷ [] }) refl refl refl (record { cut = []; cuts = record { index_is = refl; takes_none = refl; tail = refl }; acts_are = refl; flags_are = refl; cpr_says = λ none. ((refl, (refl, tt)), tt); link_is = λ e. absurd cc; freed = tt; nodes_freed = tt })

pub returns : goal.returns
unfolding uncompressed_file cpr_placed_file shape content tiles_from chain_on nodes_of lower_nodes leaves_of entry_leaves entries_on nodes_on levels_on nodes_rows used_rows run_script digits entries_in entries_below widest widest_below nodes_above firsts_of entry_firsts cover
returns c = record {
  rules = keeps_rules cpr_placed_file refl;
  made = refl;
  follows = record { within = omega arith; acts_follow = follow; keeps = keep; does = does };
}
