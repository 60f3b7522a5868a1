use Rattle.cdf_examples.proofs.Common.{ActsFollow, AllKeep, Does, Puts, Took, VariableShape, [], allowances, arith, block, chain_on, codes, content, cover, cut_entries, cut_nodes, digits, entries_below, entries_in, entries_on, entries_outline, entry_firsts, entry_leaves, false, first_written, firsts_of, found_z, inl, leaves_of, levels_on, lower, lower_nodes, new_room, new_room_below, no_entry, nodes_above, nodes_of, nodes_on, nodes_rows, one_node, outline, owned, put_t, record_length, records_data, records_index, refl, run_script, shape, sized_nodes, sized_nodes_below, stored_bytes, t_shape, tiles_from, two_levels_file, used_rows, widened_file, widest, widest_below, with_leaf, with_lower, ◌<◌, ◌∷◌, ◌≡◌, ◌⊎◌}
use Rattle.cdf_examples.proofs.Tests.{keeps_rules}
use Rattle.cdf_examples.proofs.Deciding.{acts_follow_if, all_keep_if}
use Rattle.cdf_examples.proofs.Deciding.{of_variable, nodes_freed_if, nodes_if}
use Rattle.cdf_examples.proofs.Deciding.{of_four}
use Rattle.cdf_examples.proofs.admitted.entry_widened.Goals as goal

follow : ActsFollow two_levels_file widened_file (Took 1056 28 ∷ [])
unfolding two_levels_file widened_file shape content tiles_from chain_on nodes_of lower_nodes leaves_of entry_leaves entries_on nodes_on levels_on
follow = acts_follow_if two_levels_file widened_file (Took 1056 28 ∷ []) refl refl refl refl refl refl refl

keep : AllKeep two_levels_file widened_file (allowances two_levels_file (content two_levels_file) (shape two_levels_file) (put_t 4 (codes "5"))) (Took 1056 28 ∷ []) (owned two_levels_file (shape two_levels_file))
unfolding two_levels_file widened_file shape content tiles_from chain_on nodes_of lower_nodes leaves_of entry_leaves entries_on nodes_on levels_on
keep = all_keep_if two_levels_file widened_file (allowances two_levels_file (content two_levels_file) (shape two_levels_file) (put_t 4 (codes "5"))) (Took 1056 28 ∷ []) (owned two_levels_file (shape two_levels_file)) refl

does : Does two_levels_file (put_t 4 (codes "5")) widened_file (Took 1056 28 ∷ [])
unfolding two_levels_file widened_file shape content tiles_from chain_on nodes_of lower_nodes leaves_of entry_leaves entries_on nodes_on levels_on entries_in entries_below widest widest_below nodes_above firsts_of entry_firsts cover new_room with_leaf new_room_below with_lower cut_nodes cut_entries outline entries_outline sized_nodes sized_nodes_below
does = of_variable two_levels_file widened_file (codes "T") (λ found v v'. Puts two_levels_file widened_file found 4 v v' (Took 1056 28 ∷ []) found.variable.rle) (found_z records_data) before after refl refl refl (record {
  index = record {
    ranges = refl;
    middle = before.index;
    cut = [];
    put = Took 1056 28 ∷ [];
    acts_are = refl;
    cuts = (refl, refl);
    puts = (refl, (refl, (refl, refl)));
    tail = refl;
    nodes = nodes_if two_levels_file widened_file _ (nodes_of before.index) (nodes_of after.index) (Took 1056 28 ∷ []) refl;
    freed = tt;
    nodes_freed = nodes_freed_if two_levels_file widened_file (Took 1056 28 ∷ []) (Took 1056 28 ∷ []) refl;
  };
  bytes = record {
    in_place = λ stays. absurd cc;
    others_stay = (λ unwritten. inl refl, tt);
    unwritten_stay = λ k covered. of_four (λ k. (k < first_written records_data 4) ⊎ (4 < k) → stored_bytes widened_file 404 (record_length records_data) (leaves_of (t_shape (one_node 916 7 (lower 0 7 (one_node 776 7 (block 0 3 748 false (block 4 7 1056 false no_entry))) no_entry))).index) k ≡ stored_bytes two_levels_file 404 (record_length records_data) (leaves_of (t_shape (one_node 916 7 (lower 0 3 records_index no_entry))).index) k) (λ out. refl) (λ out. refl) (λ out. refl) (λ out. refl) k covered;
    padded = (λ is_new. absurd cc, (λ is_new. refl, tt));
    blocks = (λ changed. absurd cc, (λ changed. record { packed = λ rle. absurd cc; spare = λ i low high. absurd (omega arith); reserved = λ packed. absurd cc }, tt));
  };
  r_max_rec = refl;
})
  where
    before : VariableShape
    before = t_shape (one_node 916 7 (lower 0 3 records_index no_entry))

    after : VariableShape
    after = t_shape (one_node 916 7 (lower 0 7 (one_node 776 7 (block 0 3 748 false (block 4 7 1056 false no_entry))) no_entry))

pub returns : goal.returns
unfolding two_levels_file widened_file shape content tiles_from chain_on nodes_of lower_nodes leaves_of entry_leaves entries_on nodes_on levels_on nodes_rows used_rows run_script digits entries_in entries_below widest widest_below nodes_above firsts_of entry_firsts cover
returns c = record {
  rules = keeps_rules widened_file refl;
  made = refl;
  follows = record { within = omega arith; acts_follow = follow; keeps = keep; does = does };
}
