use Rattle.cdf_examples.proofs.Common.{ActsFollow, AllKeep, Bool, Deletes, Does, Gave, VariableShape, [], all_deleted_file, allowances, arith, chain_on, codes, content, cover, cut_entries, cut_nodes, delete_t, digits, entries_below, entries_in, entries_on, entries_outline, entry_firsts, entry_leaves, fallen, false, firsts_of, found_z, is_deleted, is_sparse, is_taken_at, leaves_of, levels_on, lower_nodes, new_room, new_room_below, no_fields, no_node, nodes_above, nodes_of, nodes_on, nodes_rows, not, outline, owned, record_length, records_data, records_file, records_index, refl, room_at, run_script, shape, size_at, sized_nodes, sized_nodes_below, stored_bytes, t_shape, tiles_from, true, used_rows, vxr_bytes, widest, widest_below, with_leaf, with_lower, ◌∷◌, ◌≡◌}
use Rattle.cdf_examples.proofs.Tests.{keeps_rules}
use Rattle.cdf_examples.proofs.Deciding.{acts_follow_if, all_keep_if}
use Rattle.cdf_examples.proofs.Deciding.{of_variable, nodes_freed_if, nodes_if, given_if, each_if}
use Rattle.cdf_examples.proofs.Deciding.{of_four}
use Rattle.cdf_examples.proofs.admitted.all_deleted.Goals as goal

follow : ActsFollow records_file all_deleted_file (Gave 748 28 ∷ Gave 776 140 ∷ [])
unfolding records_file all_deleted_file shape content tiles_from chain_on nodes_of lower_nodes leaves_of entry_leaves entries_on nodes_on levels_on
follow = acts_follow_if records_file all_deleted_file (Gave 748 28 ∷ Gave 776 140 ∷ []) refl refl refl refl refl refl refl

keep : AllKeep records_file all_deleted_file (allowances records_file (content records_file) (shape records_file) (delete_t 0 3)) (Gave 748 28 ∷ Gave 776 140 ∷ []) (owned records_file (shape records_file))
unfolding records_file all_deleted_file shape content tiles_from chain_on nodes_of lower_nodes leaves_of entry_leaves entries_on nodes_on levels_on
keep = all_keep_if records_file all_deleted_file (allowances records_file (content records_file) (shape records_file) (delete_t 0 3)) (Gave 748 28 ∷ Gave 776 140 ∷ []) (owned records_file (shape records_file)) refl

does : Does records_file (delete_t 0 3) all_deleted_file (Gave 748 28 ∷ Gave 776 140 ∷ [])
unfolding records_file all_deleted_file shape content tiles_from chain_on nodes_of lower_nodes leaves_of entry_leaves entries_on nodes_on levels_on entries_in entries_below widest widest_below nodes_above firsts_of entry_firsts cover new_room with_leaf new_room_below with_lower cut_nodes cut_entries outline entries_outline sized_nodes sized_nodes_below
does = of_variable records_file all_deleted_file (codes "T") (λ found v v'. Deletes records_file all_deleted_file found 0 3 v v' (Gave 748 28 ∷ Gave 776 140 ∷ []) (is_sparse found.variable.sparse)) (found_z records_data) before after refl refl refl (record {
  cuts = record { index_is = refl; apart = refl; once = refl; frees = (refl, (refl, tt)); takes = tt; stand = tt; stay = (tt, tt) };
  blocks = (tt, tt);
  others_stay = λ k covered. of_four (λ k. is_deleted 0 3 k ≡ false → stored_bytes all_deleted_file 404 (record_length records_data) (leaves_of (t_shape no_node).index) (fallen 0 3 k) ≡ stored_bytes records_file 404 (record_length records_data) (leaves_of (t_shape records_index).index) k) (λ kept. absurd cc) (λ kept. absurd cc) (λ kept. absurd cc) (λ kept. absurd cc) k covered;
  new_nodes = each_if (λ vxr. is_taken_at (Gave 748 28 ∷ Gave 776 140 ∷ []) vxr ≡ true → size_at all_deleted_file vxr ≡ vxr_bytes (room_at all_deleted_file vxr)) (λ vxr. not (is_taken_at (Gave 748 28 ∷ Gave 776 140 ∷ []) vxr)) (λ vxr h e. absurd (clash (is_taken_at (Gave 748 28 ∷ Gave 776 140 ∷ []) vxr) h e)) (nodes_of after.index) refl;
  nodes = nodes_if records_file all_deleted_file _ (nodes_of before.index) (nodes_of after.index) (Gave 748 28 ∷ Gave 776 140 ∷ []) refl;
  tail = refl;
  freed = given_if records_file all_deleted_file no_fields (Gave 748 28 ∷ Gave 776 140 ∷ []) (Gave 748 28 ∷ []) refl;
  nodes_freed = nodes_freed_if records_file all_deleted_file (Gave 748 28 ∷ Gave 776 140 ∷ []) (Gave 748 28 ∷ Gave 776 140 ∷ []) refl;
  r_max_rec = refl;
})
  where
    before : VariableShape
    before = t_shape records_index

    after : VariableShape
    after = t_shape no_node

    clash : (p : Bool) → not p ≡ true → p ≡ true → ⊥
    clash true e f = absurd cc
    clash false e f = absurd cc

pub returns : goal.returns
unfolding records_file all_deleted_file shape content tiles_from chain_on nodes_of lower_nodes leaves_of entry_leaves entries_on nodes_on levels_on nodes_rows used_rows run_script digits entries_in entries_below widest widest_below nodes_above firsts_of entry_firsts cover
returns c = record {
  rules = keeps_rules all_deleted_file refl;
  made = refl;
  follows = record { within = omega arith; acts_follow = follow; keeps = keep; does = does };
}
