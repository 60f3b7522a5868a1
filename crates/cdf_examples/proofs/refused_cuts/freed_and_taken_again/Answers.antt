use Rattle.cdf_examples.proofs.Common.{Refused, VariableShape, [], arith, block, chain_on, content, cut_entries, cut_nodes, delete_u, entries_on, entries_outline, entry_leaves, false, found_z, inl, inr, leaves_of, levels_on, lower_nodes, no_entry, nodes_of, nodes_on, nodes_rows, one_node, one_of_forty_file, outline, pos, refl, replicate, shape, sized_nodes, sized_nodes_below, space_before, t_shape, taken_again_file, tiles_from, two_of_forty_file, u_data, used_rows, ◌∷◌}
use Rattle.cdf_examples.proofs.NeverTaken.{IsInUse, never_taken}
use Rattle.cdf_examples.proofs.Refusing.{is_taken_if}
use Rattle.cdf_examples.proofs.Tests.{keeps_rules}
use Rattle.cdf_examples.proofs.refused_cuts.freed_and_taken_again.Goals as goal

in_use : IsInUse 756 (space_before two_of_forty_file)
unfolding two_of_forty_file shape tiles_from chain_on
in_use = record {
  listed = tt;
  used = (inr (inr (omega arith)), (inr (inr (omega arith)), (inr (inr (omega arith)), (inl refl, (inr (inl (omega arith)), tt)))));
  before = omega arith;
}

refused : Refused two_of_forty_file (delete_u 1 1) taken_again_file
unfolding two_of_forty_file taken_again_file shape content tiles_from chain_on nodes_of lower_nodes leaves_of entry_leaves entries_on nodes_on levels_on cut_nodes cut_entries outline entries_outline sized_nodes sized_nodes_below
refused acts claim =
    let before : VariableShape = t_shape (one_node 848 7 (block 0 1 756 false no_entry)) in
    let after : VariableShape = t_shape (one_node 848 7 (block 0 0 756 false no_entry)) in
    let p = claim.does (found_z (u_data (pos 1) ((0, replicate 40 1) ∷ (1, replicate 40 2) ∷ []))) before after (record { named = refl; before = refl; after = refl }) in
    never_taken 756 52 acts (space_before two_of_forty_file) in_use claim.acts_follow.are (p.blocks.0.0 refl).placed.1 (is_taken_if claim.acts_follow 756 (inr (inr (inr (inl refl)))) refl)

pub returns : goal.returns
unfolding taken_again_file one_of_forty_file shape content tiles_from chain_on nodes_of lower_nodes leaves_of entry_leaves entries_on nodes_on levels_on nodes_rows used_rows
returns c = record {
  rules = keeps_rules taken_again_file refl;
  content = refl;
  refused = refused;
}
