use Rattle.cdf_examples.proofs.Common.{ActsFollow, AllKeep, Bool, Deletes, Does, Gave, VariableShape, [], allowances, arith, block, chain_on, codes, content, cover, cut_entries, cut_nodes, delete_t, digits, entries_below, entries_in, entries_on, entries_outline, entry_firsts, entry_leaves, fallen, false, firsts_of, found_z, high_first, is_deleted, is_sparse, is_taken_at, leaves_of, levels_on, lower_nodes, nat_le, new_room, new_room_below, no_entry, no_fields, node, node_freed_file, nodes_above, nodes_of, nodes_on, nodes_rows, not, one_node, outline, owned, pad_high_first, pos, record_length, records_index, refl, room_at, run_script, shape, size_at, sized_nodes, sized_nodes_below, stored_bytes, t_data, t_shape, tiles_from, true, two_nodes_file, used_rows, vxr_bytes, widest, widest_below, with_leaf, with_lower, ◌&&◌, ◌∷◌, ◌≡◌}
use Rattle.cdf_examples.proofs.Tests.{keeps_rules}
use Rattle.cdf_examples.proofs.Deciding.{acts_follow_if, all_keep_if}
use Rattle.cdf_examples.proofs.Deciding.{of_variable, nodes_freed_if, nodes_if, given_if, each_if}
use Rattle.cdf_examples.proofs.Deciding.{first_or_second, not_kept}
use Rattle.cdf_examples.proofs.admitted.node_freed.Goals as goal

follow : ActsFollow two_nodes_file node_freed_file (Gave 916 28 ∷ Gave 944 140 ∷ [])
unfolding two_nodes_file node_freed_file shape content tiles_from chain_on nodes_of lower_nodes leaves_of entry_leaves entries_on nodes_on levels_on
follow = acts_follow_if two_nodes_file node_freed_file (Gave 916 28 ∷ Gave 944 140 ∷ []) refl refl refl refl refl refl refl

keep : AllKeep two_nodes_file node_freed_file (allowances two_nodes_file (content two_nodes_file) (shape two_nodes_file) (delete_t 4 7)) (Gave 916 28 ∷ Gave 944 140 ∷ []) (owned two_nodes_file (shape two_nodes_file))
unfolding two_nodes_file node_freed_file shape content tiles_from chain_on nodes_of lower_nodes leaves_of entry_leaves entries_on nodes_on levels_on
keep = all_keep_if two_nodes_file node_freed_file (allowances two_nodes_file (content two_nodes_file) (shape two_nodes_file) (delete_t 4 7)) (Gave 916 28 ∷ Gave 944 140 ∷ []) (owned two_nodes_file (shape two_nodes_file)) refl

does : Does two_nodes_file (delete_t 4 7) node_freed_file (Gave 916 28 ∷ Gave 944 140 ∷ [])
unfolding two_nodes_file node_freed_file shape content tiles_from chain_on nodes_of lower_nodes leaves_of entry_leaves entries_on nodes_on levels_on entries_in entries_below widest widest_below nodes_above firsts_of entry_firsts cover new_room with_leaf new_room_below with_lower cut_nodes cut_entries outline entries_outline sized_nodes sized_nodes_below
does = of_variable two_nodes_file node_freed_file (codes "T") (λ found v v'. Deletes two_nodes_file node_freed_file found 4 7 v v' (Gave 916 28 ∷ Gave 944 140 ∷ []) (is_sparse found.variable.sparse)) (found_z (t_data (pos 7) ((0, high_first 7) ∷ (1, pad_high_first) ∷ (2, pad_high_first) ∷ (3, high_first 9) ∷ (4, high_first 7) ∷ (5, pad_high_first) ∷ (6, pad_high_first) ∷ (7, high_first 9) ∷ []))) before after refl refl refl (record {
  cuts = record { index_is = refl; apart = refl; once = refl; frees = (refl, (refl, (refl, (refl, tt)))); takes = tt; stand = (refl, tt); stay = ((λ part whole. (refl, refl, refl), tt), ((λ part. absurd cc, tt), tt)) };
  blocks = ((λ part. record { packed = λ whole. absurd cc; placed = (refl, refl); bytes = λ whole. absurd cc }, tt), ((λ part. absurd cc, tt), tt));
  others_stay = λ k covered. first_or_second (λ k. is_deleted 4 7 k ≡ false → stored_bytes node_freed_file 404 (record_length (t_data (pos 7) ((0, high_first 7) ∷ (1, pad_high_first) ∷ (2, pad_high_first) ∷ (3, high_first 9) ∷ (4, high_first 7) ∷ (5, pad_high_first) ∷ (6, pad_high_first) ∷ (7, high_first 9) ∷ []))) (leaves_of records_index) (fallen 4 7 k) ≡ stored_bytes two_nodes_file 404 (record_length (t_data (pos 7) ((0, high_first 7) ∷ (1, pad_high_first) ∷ (2, pad_high_first) ∷ (3, high_first 9) ∷ (4, high_first 7) ∷ (5, pad_high_first) ∷ (6, pad_high_first) ∷ (7, high_first 9) ∷ []))) (leaves_of (node 776 7 (block 0 3 748 false no_entry) (one_node 944 7 (block 4 7 916 false no_entry)))) k) k (nat_le 4 k && nat_le k 7) covered (λ kept. refl) (λ kept. refl) (λ kept. refl) (λ kept. refl) (λ second kept. absurd (not_kept (nat_le 4 k && nat_le k 7) second kept));
  new_nodes = each_if (λ vxr. is_taken_at (Gave 916 28 ∷ Gave 944 140 ∷ []) vxr ≡ true → size_at node_freed_file vxr ≡ vxr_bytes (room_at node_freed_file vxr)) (λ vxr. not (is_taken_at (Gave 916 28 ∷ Gave 944 140 ∷ []) vxr)) (λ vxr h e. absurd (clash (is_taken_at (Gave 916 28 ∷ Gave 944 140 ∷ []) vxr) h e)) (nodes_of after.index) refl;
  nodes = nodes_if two_nodes_file node_freed_file _ (nodes_of before.index) (nodes_of after.index) (Gave 916 28 ∷ Gave 944 140 ∷ []) refl;
  tail = refl;
  freed = given_if two_nodes_file node_freed_file no_fields (Gave 916 28 ∷ Gave 944 140 ∷ []) (Gave 916 28 ∷ []) refl;
  nodes_freed = nodes_freed_if two_nodes_file node_freed_file (Gave 916 28 ∷ Gave 944 140 ∷ []) (Gave 916 28 ∷ Gave 944 140 ∷ []) refl;
  r_max_rec = refl;
})
  where
    before : VariableShape
    before = t_shape (node 776 7 (block 0 3 748 false no_entry) (one_node 944 7 (block 4 7 916 false no_entry)))

    after : VariableShape
    after = t_shape records_index

    clash : (p : Bool) → not p ≡ true → p ≡ true → ⊥
    clash true e f = absurd cc
    clash false e f = absurd cc

pub returns : goal.returns
unfolding two_nodes_file node_freed_file shape content tiles_from chain_on nodes_of lower_nodes leaves_of entry_leaves entries_on nodes_on levels_on nodes_rows used_rows run_script digits entries_in entries_below widest widest_below nodes_above firsts_of entry_firsts cover
returns c = record {
  rules = keeps_rules node_freed_file refl;
  made = refl;
  follows = record { within = omega arith; acts_follow = follow; keeps = keep; does = does };
}
