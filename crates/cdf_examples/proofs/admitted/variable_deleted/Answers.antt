use Rattle.cdf_examples.proofs.Common.{ActsFollow, AllKeep, Does, Gave, [], allowances, arith, block, chain_on, codes, content, cover, cut_entries, cut_nodes, delete_var_t, digits, emptied_fields, entries_below, entries_in, entries_on, entries_outline, entry_firsts, entry_leaves, false, firsts_of, found_z, high_first, leaves_of, levels_on, lower_nodes, new_room, new_room_below, no_entry, nodes_above, nodes_of, nodes_on, nodes_rows, one_node, outline, owned, pos, refl, run_script, shape, sized_nodes, sized_nodes_below, small_block_file, t_data, t_shape, tiles_from, used_rows, var_deleted_file, widest, widest_below, with_leaf, with_lower, ◌∷◌}
use Rattle.cdf_examples.proofs.Tests.{keeps_rules}
use Rattle.cdf_examples.proofs.Deciding.{acts_follow_if, all_keep_if}
use Rattle.cdf_examples.proofs.Deciding.{deleted_named, freed_if}
use Rattle.cdf_model.specs.declared.kinds.Kind.TheVariants as kinds
use Rattle.cdf_examples.proofs.admitted.variable_deleted.Goals as goal

follow : ActsFollow small_block_file var_deleted_file (Gave 748 24 ∷ Gave 772 140 ∷ Gave 404 344 ∷ [])
unfolding small_block_file var_deleted_file shape content tiles_from chain_on nodes_of lower_nodes leaves_of entry_leaves entries_on nodes_on levels_on
follow = acts_follow_if small_block_file var_deleted_file (Gave 748 24 ∷ Gave 772 140 ∷ Gave 404 344 ∷ []) refl refl refl refl refl refl refl

keep : AllKeep small_block_file var_deleted_file (allowances small_block_file (content small_block_file) (shape small_block_file) delete_var_t) (Gave 748 24 ∷ Gave 772 140 ∷ Gave 404 344 ∷ []) (owned small_block_file (shape small_block_file))
unfolding small_block_file var_deleted_file shape content tiles_from chain_on nodes_of lower_nodes leaves_of entry_leaves entries_on nodes_on levels_on
keep = all_keep_if small_block_file var_deleted_file (allowances small_block_file (content small_block_file) (shape small_block_file) delete_var_t) (Gave 748 24 ∷ Gave 772 140 ∷ Gave 404 344 ∷ []) (owned small_block_file (shape small_block_file)) refl

does : Does small_block_file delete_var_t var_deleted_file (Gave 748 24 ∷ Gave 772 140 ∷ Gave 404 344 ∷ [])
unfolding small_block_file var_deleted_file shape content tiles_from chain_on nodes_of lower_nodes leaves_of entry_leaves entries_on nodes_on levels_on entries_in entries_below widest widest_below nodes_above firsts_of entry_firsts cover new_room with_leaf new_room_below with_lower cut_nodes cut_entries outline entries_outline sized_nodes sized_nodes_below
does = deleted_named small_block_file var_deleted_file (codes "T") (Gave 748 24 ∷ Gave 772 140 ∷ Gave 404 344 ∷ []) (found_z (t_data (pos 2) ((0, high_first 1) ∷ (1, high_first 2) ∷ (2, high_first 3) ∷ []))) (t_shape (one_node 772 7 (block 0 2 748 false no_entry))) refl refl (record {
  acts_are = refl;
  attributes = λ n a a' was is. absurd cc;
  r_max_rec_is = refl;
  freed = freed_if small_block_file var_deleted_file (emptied_fields kinds.Z) (Gave 748 24 ∷ Gave 772 140 ∷ Gave 404 344 ∷ []) refl;
  emptied = (refl, (refl, tt));
})

pub returns : goal.returns
unfolding small_block_file var_deleted_file shape content tiles_from chain_on nodes_of lower_nodes leaves_of entry_leaves entries_on nodes_on levels_on nodes_rows used_rows run_script digits entries_in entries_below widest widest_below nodes_above firsts_of entry_firsts cover
returns c = record {
  rules = keeps_rules var_deleted_file refl;
  made = refl;
  follows = record { within = omega arith; acts_follow = follow; keeps = keep; does = does };
}
