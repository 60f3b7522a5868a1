use Rattle.cdf_examples.proofs.Common.{ActsFollow, AllKeep, Bool, Deletes, Does, VariableShape, [], allowances, arith, block, chain_on, codes, content, cover, cut_entries, cut_nodes, delete_t, digits, entries_below, entries_in, entries_on, entries_outline, entry_firsts, entry_leaves, fallen, false, first_cut_file, firsts_of, found_z, high_first, is_deleted, is_sparse, is_taken_at, leaves_of, levels_on, lower_nodes, new_room, new_room_below, no_entry, nodes_above, nodes_of, nodes_on, nodes_rows, not, one_node, outline, owned, pos, record_length, records_index, refl, room_at, run_script, shape, size_at, sized_nodes, sized_nodes_below, stored_bytes, t_data, t_shape, tiles_from, true, two_stored_file, used_rows, vxr_bytes, widest, widest_below, with_leaf, with_lower, ◌∷◌, ◌≡◌}
use Rattle.cdf_examples.proofs.Tests.{keeps_rules}
use Rattle.cdf_examples.proofs.Deciding.{acts_follow_if, all_keep_if}
use Rattle.cdf_examples.proofs.Deciding.{of_variable, nodes_freed_if, nodes_if, each_if}
use Rattle.cdf_examples.proofs.Deciding.{same_if, of_four}
use Rattle.cdf_examples.proofs.admitted.first_deleted.Goals as goal

follow : ActsFollow two_stored_file first_cut_file ([])
unfolding two_stored_file first_cut_file shape content tiles_from chain_on nodes_of lower_nodes leaves_of entry_leaves entries_on nodes_on levels_on
follow = acts_follow_if two_stored_file first_cut_file ([]) refl refl refl refl refl refl refl

keep : AllKeep two_stored_file first_cut_file (allowances two_stored_file (content two_stored_file) (shape two_stored_file) (delete_t 0 0)) ([]) (owned two_stored_file (shape two_stored_file))
unfolding two_stored_file first_cut_file shape content tiles_from chain_on nodes_of lower_nodes leaves_of entry_leaves entries_on nodes_on levels_on
keep = all_keep_if two_stored_file first_cut_file (allowances two_stored_file (content two_stored_file) (shape two_stored_file) (delete_t 0 0)) ([]) (owned two_stored_file (shape two_stored_file)) refl

does : Does two_stored_file (delete_t 0 0) first_cut_file ([])
unfolding two_stored_file first_cut_file shape content tiles_from chain_on nodes_of lower_nodes leaves_of entry_leaves entries_on nodes_on levels_on entries_in entries_below widest widest_below nodes_above firsts_of entry_firsts cover new_room with_leaf new_room_below with_lower cut_nodes cut_entries outline entries_outline sized_nodes sized_nodes_below
does = of_variable two_stored_file first_cut_file (codes "T") (λ found v v'. Deletes two_stored_file first_cut_file found 0 0 v v' ([]) (is_sparse found.variable.sparse)) (found_z (t_data (pos 1) ((0, high_first 1) ∷ (1, high_first 2) ∷ []))) before after refl refl refl (record {
  cuts = record { index_is = refl; apart = refl; once = refl; frees = (refl, (refl, tt)); takes = tt; stand = (refl, tt); stay = ((λ part whole. (refl, refl, refl), tt), tt) };
  blocks = ((λ part. record { packed = λ whole rle. absurd cc; placed = (refl, refl); bytes = λ whole. record { packed = λ rle. absurd cc; spare = same_if two_stored_file first_cut_file 772 776 refl; reserved = λ packed. absurd cc } }, tt), tt);
  others_stay = λ k covered. of_four (λ k. is_deleted 0 0 k ≡ false → stored_bytes first_cut_file 404 (record_length (t_data (pos 1) ((0, high_first 1) ∷ (1, high_first 2) ∷ []))) (leaves_of (t_shape (one_node 776 7 (block 0 2 748 false no_entry))).index) (fallen 0 0 k) ≡ stored_bytes two_stored_file 404 (record_length (t_data (pos 1) ((0, high_first 1) ∷ (1, high_first 2) ∷ []))) (leaves_of (t_shape records_index).index) k) (λ kept. absurd cc) (λ kept. refl) (λ kept. refl) (λ kept. refl) k covered;
  new_nodes = each_if (λ vxr. is_taken_at ([]) vxr ≡ true → size_at first_cut_file vxr ≡ vxr_bytes (room_at first_cut_file vxr)) (λ vxr. not (is_taken_at ([]) vxr)) (λ vxr h e. absurd (clash (is_taken_at ([]) vxr) h e)) (nodes_of after.index) refl;
  nodes = nodes_if two_stored_file first_cut_file _ (nodes_of before.index) (nodes_of after.index) ([]) refl;
  tail = refl;
  freed = tt;
  nodes_freed = nodes_freed_if two_stored_file first_cut_file ([]) ([]) refl;
  r_max_rec = refl;
})
  where
    before : VariableShape
    before = t_shape records_index

    after : VariableShape
    after = t_shape (one_node 776 7 (block 0 2 748 false no_entry))

    clash : (p : Bool) → not p ≡ true → p ≡ true → ⊥
    clash true e f = absurd cc
    clash false e f = absurd cc

pub returns : goal.returns
unfolding two_stored_file first_cut_file shape content tiles_from chain_on nodes_of lower_nodes leaves_of entry_leaves entries_on nodes_on levels_on nodes_rows used_rows run_script digits entries_in entries_below widest widest_below nodes_above firsts_of entry_firsts cover
returns c = record {
  rules = keeps_rules first_cut_file refl;
  made = refl;
  follows = record { within = omega arith; acts_follow = follow; keeps = keep; does = does };
}
