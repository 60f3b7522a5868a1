use Rattle.cdf_examples.proofs.Common.{Act, Among, Gave, List, Refused, [], after_act, block, chain_on, content, cut_entries, cut_nodes, delete_var_t, entries_on, entries_outline, entry_leaves, false, fold, found_z, high_first, inl, leaves_of, levels_on, loose_records, lower_nodes, no_entry, nodes_of, nodes_on, nodes_rows, one_node, outline, pos, refl, shape, size_at, sized_nodes, sized_nodes_below, small_block_file, space_before, subst, t_data, t_shape, tiles_from, two_pieces_file, used_rows, var_deleted_file, ◌∷◌}
use Rattle.cdf_examples.proofs.Tests.{keeps_rules}
use Rattle.cdf_examples.proofs.Refusing.{not_among}
use Rattle.cdf_examples.proofs.Refusing.{each_in}
use Rattle.cdf_examples.proofs.refused_cuts.freed_in_pieces.Goals as goal

refused : Refused small_block_file delete_var_t two_pieces_file
unfolding small_block_file two_pieces_file shape content tiles_from chain_on nodes_of lower_nodes leaves_of entry_leaves entries_on nodes_on levels_on cut_nodes cut_entries outline entries_outline sized_nodes sized_nodes_below
refused acts claim =
    let p = claim.does (found_z (t_data (pos 2) ((0, high_first 1) ∷ (1, high_first 2) ∷ (2, high_first 3) ∷ []))) (t_shape (one_node 772 7 (block 0 2 748 false no_entry))) refl refl in
    not_among (748, 12) (fold after_act (space_before small_block_file) (Gave 748 24 ∷ Gave 772 140 ∷ Gave 404 344 ∷ [])).loose refl
    (subst (λ (list : List Act). Among (748, 12) (fold after_act (space_before small_block_file) list).loose) p.acts_are
    (each_in (λ m. Among (m, size_at two_pieces_file m) (fold after_act (space_before small_block_file) acts).loose) (loose_records two_pieces_file) 748 claim.acts_follow.left.loose_are (inl refl)))

pub returns : goal.returns
unfolding two_pieces_file var_deleted_file shape content tiles_from chain_on nodes_of lower_nodes leaves_of entry_leaves entries_on nodes_on levels_on nodes_rows used_rows
returns c = record {
  rules = keeps_rules two_pieces_file refl;
  content = refl;
  refused = refused;
}
