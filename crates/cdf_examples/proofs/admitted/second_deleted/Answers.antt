use Rattle.cdf_examples.proofs.Common.{ActsFollow, AllKeep, Bool, Deletes, Does, Variable, VariableShape, [], allowances, arith, block, chain_on, codes, content, cover, cut_entries, cut_nodes, delete_u, digits, entries_below, entries_in, entries_on, entries_outline, entry_firsts, entry_leaves, fallen, false, firsts_of, found_z, is_deleted, is_sparse, is_taken_at, leaves_of, levels_on, lower_nodes, new_room, new_room_below, no_entry, nodes_above, nodes_of, nodes_on, nodes_rows, not, one_node, one_of_forty_file, outline, owned, pos, record_length, refl, replicate, room_at, run_script, shape, size_at, sized_nodes, sized_nodes_below, stored_bytes, t_shape, tiles_from, true, two_of_forty_file, u_data, used_rows, vxr_bytes, widest, widest_below, with_leaf, with_lower, ◌∷◌, ◌≡◌}
use Rattle.cdf_examples.proofs.Tests.{keeps_rules}
use Rattle.cdf_examples.proofs.Deciding.{acts_follow_if, all_keep_if}
use Rattle.cdf_examples.proofs.Deciding.{of_variable, nodes_freed_if, nodes_if, each_if}
use Rattle.cdf_examples.proofs.Deciding.{same_if, of_two}
use Rattle.cdf_examples.proofs.admitted.second_deleted.Goals as goal

follow : ActsFollow two_of_forty_file one_of_forty_file ([])
unfolding two_of_forty_file one_of_forty_file shape content tiles_from chain_on nodes_of lower_nodes leaves_of entry_leaves entries_on nodes_on levels_on
follow = acts_follow_if two_of_forty_file one_of_forty_file ([]) refl refl refl refl refl refl refl

keep : AllKeep two_of_forty_file one_of_forty_file (allowances two_of_forty_file (content two_of_forty_file) (shape two_of_forty_file) (delete_u 1 1)) ([]) (owned two_of_forty_file (shape two_of_forty_file))
unfolding two_of_forty_file one_of_forty_file shape content tiles_from chain_on nodes_of lower_nodes leaves_of entry_leaves entries_on nodes_on levels_on
keep = all_keep_if two_of_forty_file one_of_forty_file (allowances two_of_forty_file (content two_of_forty_file) (shape two_of_forty_file) (delete_u 1 1)) ([]) (owned two_of_forty_file (shape two_of_forty_file)) refl

does : Does two_of_forty_file (delete_u 1 1) one_of_forty_file ([])
unfolding two_of_forty_file one_of_forty_file shape content tiles_from chain_on nodes_of lower_nodes leaves_of entry_leaves entries_on nodes_on levels_on entries_in entries_below widest widest_below nodes_above firsts_of entry_firsts cover new_room with_leaf new_room_below with_lower cut_nodes cut_entries outline entries_outline sized_nodes sized_nodes_below
does = of_variable two_of_forty_file one_of_forty_file (codes "U") (λ found v v'. Deletes two_of_forty_file one_of_forty_file found 1 1 v v' ([]) (is_sparse found.variable.sparse)) (found_z two) before after refl refl refl (record {
  cuts = record { index_is = refl; apart = refl; once = refl; frees = (refl, (refl, tt)); takes = tt; stand = (refl, tt); stay = ((λ part whole. (refl, refl, refl), tt), tt) };
  blocks = ((λ part. record { packed = λ whole rle. absurd cc; placed = (refl, refl); bytes = λ whole. record { packed = λ rle. absurd cc; spare = same_if two_of_forty_file one_of_forty_file 808 848 refl; reserved = λ packed. absurd cc } }, tt), tt);
  others_stay = λ k covered. of_two (λ k. is_deleted 1 1 k ≡ false → stored_bytes one_of_forty_file 404 (record_length two) (leaves_of after.index) (fallen 1 1 k) ≡ stored_bytes two_of_forty_file 404 (record_length two) (leaves_of before.index) k) (λ kept. refl) (λ kept. absurd cc) k covered;
  new_nodes = each_if (λ vxr. is_taken_at ([]) vxr ≡ true → size_at one_of_forty_file vxr ≡ vxr_bytes (room_at one_of_forty_file vxr)) (λ vxr. not (is_taken_at ([]) vxr)) (λ vxr h e. absurd (clash (is_taken_at ([]) vxr) h e)) (nodes_of after.index) refl;
  nodes = nodes_if two_of_forty_file one_of_forty_file _ (nodes_of before.index) (nodes_of after.index) ([]) refl;
  tail = refl;
  freed = tt;
  nodes_freed = nodes_freed_if two_of_forty_file one_of_forty_file ([]) ([]) refl;
  r_max_rec = refl;
})
  where
    two : Variable
    two = u_data (pos 1) ((0, replicate 40 1) ∷ (1, replicate 40 2) ∷ [])

    before : VariableShape
    before = t_shape (one_node 848 7 (block 0 1 756 false no_entry))

    after : VariableShape
    after = t_shape (one_node 848 7 (block 0 0 756 false no_entry))

    clash : (p : Bool) → not p ≡ true → p ≡ true → ⊥
    clash true e f = absurd cc
    clash false e f = absurd cc

pub returns : goal.returns
unfolding two_of_forty_file one_of_forty_file shape content tiles_from chain_on nodes_of lower_nodes leaves_of entry_leaves entries_on nodes_on levels_on nodes_rows used_rows run_script digits entries_in entries_below widest widest_below nodes_above firsts_of entry_firsts cover
returns c = record {
  rules = keeps_rules one_of_forty_file refl;
  made = refl;
  follows = record { within = omega arith; acts_follow = follow; keeps = keep; does = does };
}
