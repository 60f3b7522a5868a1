use Rattle.cdf_examples.proofs.Common.{Act, Among, List, Refused, Took, VariableShape, [], ap, block, chain_on, codes, content, entries_on, entry_leaves, false, first_put_file, found_z, inl, inr, leaves_of, levels_on, long_node_file, lower_nodes, negsuc, new_room, no_entry, no_node, nodes_of, nodes_on, nodes_rows, one_node, put_t, refl, shape, subst, t_data, t_shape, taken, tiles_from, used_rows, variable_file, with_leaf, ◌∙◌, ◌∷◌, ◌≡◌}
use Rattle.cdf_examples.proofs.Tests.{keeps_rules}
use Rattle.cdf_examples.proofs.Refusing.{is_taken_if, no_size}
use Rattle.cdf_examples.proofs.PutLemmas.{first_take, puts_only}
use Rattle.cdf_examples.proofs.refused_puts.node_too_long.Goals as goal

refused : Refused variable_file (put_t 0 (codes "7")) long_node_file
unfolding variable_file long_node_file shape content tiles_from chain_on nodes_of lower_nodes leaves_of entry_leaves entries_on nodes_on levels_on new_room with_leaf
refused acts claim =
    let before : VariableShape = t_shape no_node in
    let after : VariableShape = t_shape (one_node 776 7 (block 0 3 748 false no_entry)) in
    let p = claim.does (found_z (t_data (negsuc 0) [])) before after (record { named = refl; before = refl; after = refl }) in
    let puts = puts_only variable_file long_node_file (t_data (negsuc 0) []) 0 before after acts p.index refl in
    let block_take = first_take 28 _ acts puts in
    let node_take = first_take 140 _ block_take.more block_take.rest.1 in
    let all : acts ≡ Took block_take.place 28 ∷ Took node_take.place 140 ∷ [] = block_take.acts_are ∙ ap (λ (more : List Act). Took block_take.place 28 ∷ more) (node_take.acts_are ∙ ap (λ (more : List Act). Took node_take.place 140 ∷ more) node_take.rest.0) in
    no_size (776, 156) (taken (Took block_take.place 28 ∷ Took node_take.place 140 ∷ [])) refl
    (subst (λ (list : List Act). Among (776, 156) (taken list)) all (is_taken_if claim.acts_follow 776 (inr (inr (inr (inr (inl refl))))) refl))

pub returns : goal.returns
unfolding long_node_file first_put_file shape content tiles_from chain_on nodes_of lower_nodes leaves_of entry_leaves entries_on nodes_on levels_on nodes_rows used_rows
returns c = record {
  rules = keeps_rules long_node_file refl;
  content = refl;
  refused = refused;
}
