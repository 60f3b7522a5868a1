use Rattle.cdf_examples.proofs.Common.{ActsFollow, AllKeep, Does, Puts, Took, VariableShape, [], allowances, arith, chain_on, codes, content, cover, cut_entries, cut_nodes, digits, entries_below, entries_in, entries_on, entries_outline, entry_firsts, entry_leaves, first_put_file, firsts_of, found_z, leaves_of, levels_on, lower_nodes, negsuc, new_room, new_room_below, no_node, nodes_above, nodes_of, nodes_on, nodes_rows, outline, owned, put_t, records_index, refl, run_script, shape, sized_nodes, sized_nodes_below, t_data, t_shape, tiles_from, used_rows, variable_file, widest, widest_below, with_leaf, with_lower, ◌∷◌}
use Rattle.cdf_examples.proofs.Tests.{keeps_rules}
use Rattle.cdf_examples.proofs.Deciding.{acts_follow_if, all_keep_if}
use Rattle.cdf_examples.proofs.Deciding.{of_variable, nodes_freed_if, nodes_if}
use Rattle.cdf_examples.proofs.admitted.first_record_put.Goals as goal

follow : ActsFollow variable_file first_put_file (Took 748 28 ∷ Took 776 140 ∷ [])
unfolding variable_file first_put_file shape content tiles_from chain_on nodes_of lower_nodes leaves_of entry_leaves entries_on nodes_on levels_on
follow = acts_follow_if variable_file first_put_file (Took 748 28 ∷ Took 776 140 ∷ []) refl refl refl refl refl refl refl

keep : AllKeep variable_file first_put_file (allowances variable_file (content variable_file) (shape variable_file) (put_t 0 (codes "7"))) (Took 748 28 ∷ Took 776 140 ∷ []) (owned variable_file (shape variable_file))
unfolding variable_file first_put_file shape content tiles_from chain_on nodes_of lower_nodes leaves_of entry_leaves entries_on nodes_on levels_on
keep = all_keep_if variable_file first_put_file (allowances variable_file (content variable_file) (shape variable_file) (put_t 0 (codes "7"))) (Took 748 28 ∷ Took 776 140 ∷ []) (owned variable_file (shape variable_file)) refl

does : Does variable_file (put_t 0 (codes "7")) first_put_file (Took 748 28 ∷ Took 776 140 ∷ [])
unfolding variable_file first_put_file shape content tiles_from chain_on nodes_of lower_nodes leaves_of entry_leaves entries_on nodes_on levels_on entries_in entries_below widest widest_below nodes_above firsts_of entry_firsts cover new_room with_leaf new_room_below with_lower cut_nodes cut_entries outline entries_outline sized_nodes sized_nodes_below
does = of_variable variable_file first_put_file (codes "T") (λ found v v'. Puts variable_file first_put_file found 0 v v' (Took 748 28 ∷ Took 776 140 ∷ []) found.variable.rle) (found_z (t_data (negsuc 0) [])) before after refl refl refl (record {
  index = record {
    ranges = refl;
    middle = before.index;
    cut = [];
    put = Took 748 28 ∷ Took 776 140 ∷ [];
    acts_are = refl;
    cuts = (refl, refl);
    puts = (refl, (refl, (refl, (refl, refl))));
    tail = refl;
    nodes = nodes_if variable_file first_put_file _ (nodes_of before.index) (nodes_of after.index) (Took 748 28 ∷ Took 776 140 ∷ []) refl;
    freed = tt;
    nodes_freed = nodes_freed_if variable_file first_put_file (Took 748 28 ∷ Took 776 140 ∷ []) (Took 748 28 ∷ Took 776 140 ∷ []) refl;
  };
  bytes = record {
    in_place = λ stays. absurd cc;
    others_stay = tt;
    unwritten_stay = λ k covered. absurd cc;
    padded = ((λ is_new. refl), tt);
    blocks = (λ changed. record { packed = λ rle. absurd cc; spare = λ i low high. absurd (omega arith); reserved = λ packed. absurd cc }, tt);
  };
  r_max_rec = refl;
})
  where
    before : VariableShape
    before = t_shape no_node

    after : VariableShape
    after = t_shape records_index

pub returns : goal.returns
unfolding variable_file first_put_file shape content tiles_from chain_on nodes_of lower_nodes leaves_of entry_leaves entries_on nodes_on levels_on nodes_rows used_rows run_script digits entries_in entries_below widest widest_below nodes_above firsts_of entry_firsts cover
returns c = record {
  rules = keeps_rules first_put_file refl;
  made = refl;
  follows = record { within = omega arith; acts_follow = follow; keeps = keep; does = does };
}
