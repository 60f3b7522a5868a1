use Rattle.cdf_examples.proofs.Common.{ActsFollow, AllKeep, Does, Puts, VariableShape, [], allowances, arith, chain_on, codes, content, cover, cut_entries, cut_nodes, digits, entries_below, entries_in, entries_on, entries_outline, entry_firsts, entry_leaves, first_put_file, first_written, firsts_of, found_z, high_first, inl, inr, leaves_of, levels_on, lower_nodes, max_rec_touches, new_room, new_room_below, nodes_above, nodes_of, nodes_on, nodes_rows, outline, owned, pos, put_again_file, put_t, record_length, records_index, refl, run_script, shape, sized_nodes, sized_nodes_below, stored_bytes, t_data, t_shape, tiles_from, used_rows, widest, widest_below, with_leaf, with_lower, written_in, ◌++◌, ◌<◌, ◌∷◌, ◌≡◌, ◌⊎◌}
use Rattle.cdf_examples.proofs.Tests.{keeps_rules}
use Rattle.cdf_examples.proofs.Deciding.{acts_follow_if, all_keep_if}
use Rattle.cdf_examples.proofs.Deciding.{of_variable, nodes_freed_if, nodes_if}
use Rattle.cdf_examples.proofs.Deciding.{of_four}
use Rattle.cdf_examples.proofs.BytesKept.{changed_by}
use Rattle.cdf_model.specs.declared.kinds.Kind.TheVariants as kinds
use Rattle.cdf_examples.proofs.admitted.record_put_again.Goals as goal

follow : ActsFollow first_put_file put_again_file ([])
unfolding first_put_file put_again_file shape content tiles_from chain_on nodes_of lower_nodes leaves_of entry_leaves entries_on nodes_on levels_on
follow = acts_follow_if first_put_file put_again_file ([]) refl refl refl refl refl refl refl

keep : AllKeep first_put_file put_again_file (allowances first_put_file (content first_put_file) (shape first_put_file) (put_t 0 (codes "8"))) ([]) (owned first_put_file (shape first_put_file))
unfolding first_put_file put_again_file shape content tiles_from chain_on nodes_of lower_nodes leaves_of entry_leaves entries_on nodes_on levels_on
keep = all_keep_if first_put_file put_again_file (allowances first_put_file (content first_put_file) (shape first_put_file) (put_t 0 (codes "8"))) ([]) (owned first_put_file (shape first_put_file)) refl

does : Does first_put_file (put_t 0 (codes "8")) put_again_file ([])
unfolding first_put_file put_again_file shape content tiles_from chain_on nodes_of lower_nodes leaves_of entry_leaves entries_on nodes_on levels_on entries_in entries_below widest widest_below nodes_above firsts_of entry_firsts cover new_room with_leaf new_room_below with_lower cut_nodes cut_entries outline entries_outline sized_nodes sized_nodes_below
does = of_variable first_put_file put_again_file (codes "T") (λ found v v'. Puts first_put_file put_again_file found 0 v v' ([]) found.variable.rle) (found_z (t_data (pos 0) ((0, high_first 7) ∷ []))) before after refl refl refl (record {
  index = record {
    ranges = refl;
    middle = before.index;
    cut = [];
    put = [];
    acts_are = refl;
    cuts = (refl, refl);
    puts = (refl, (refl, refl));
    tail = refl;
    nodes = nodes_if first_put_file put_again_file _ (nodes_of before.index) (nodes_of after.index) ([]) refl;
    freed = tt;
    nodes_freed = nodes_freed_if first_put_file put_again_file ([]) ([]) refl;
  };
  bytes = record {
    in_place = λ stays. changed_by first_put_file put_again_file (max_rec_touches first_put_file kinds.Z 404 ++ written_in (t_data (pos 0) ((0, high_first 7) ∷ [])) (first_written (t_data (pos 0) ((0, high_first 7) ∷ [])) 0) 0 (leaves_of records_index)) (omega arith) refl;
    others_stay = (λ unwritten. absurd cc, tt);
    unwritten_stay = λ k covered. of_four (λ k. (k < first_written (t_data (pos 0) ((0, high_first 7) ∷ [])) 0) ⊎ (0 < k) → stored_bytes put_again_file 404 (record_length (t_data (pos 0) ((0, high_first 7) ∷ []))) (leaves_of (t_shape records_index).index) k ≡ stored_bytes first_put_file 404 (record_length (t_data (pos 0) ((0, high_first 7) ∷ []))) (leaves_of (t_shape records_index).index) k) (λ out. elim out [ inl low ↦ absurd (omega (arith, low)) | inr high ↦ absurd (omega (arith, high)) ]) (λ out. refl) (λ out. refl) (λ out. refl) k covered;
    padded = (λ is_new. absurd cc, tt);
    blocks = (λ changed. record { packed = λ rle. absurd cc; spare = record { each = λ i low high. absurd (omega arith) }; reserved = λ packed. absurd cc }, tt);
  };
  r_max_rec = refl;
})
  where
    before : VariableShape
    before = t_shape records_index

    after : VariableShape
    after = t_shape records_index

pub returns : goal.returns
unfolding first_put_file put_again_file shape content tiles_from chain_on nodes_of lower_nodes leaves_of entry_leaves entries_on nodes_on levels_on nodes_rows used_rows run_script digits entries_in entries_below widest widest_below nodes_above firsts_of entry_firsts cover
returns c = record {
  rules = keeps_rules put_again_file refl;
  made = refl;
  follows = record { within = omega arith; acts_follow = follow; keeps = keep; does = does };
}
