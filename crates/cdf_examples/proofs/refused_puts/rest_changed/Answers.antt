use Rattle.cdf_examples.proofs.Common.{Act, List, Refused, Took, VariableShape, [], ap, ap₂, arith, block, chain_on, codes, content, entries_on, entry_leaves, false, found_z, leaves_of, levels_on, lies_in_taken, link_to, lower_nodes, negsuc, new_room, no_entry, no_node, nodes_of, nodes_on, nodes_rows, one_node, put_t, refl, rest_changed_file, rest_listed_file, shape, spare_file, subst, sym, t_data, t_shape, tiles_from, used_rows, with_leaf, ℕ, ◌∙◌, ◌∷◌, ◌≡◌}
use Rattle.cdf_examples.proofs.Tests.{keeps_rules}
use Rattle.cdf_examples.proofs.Refusing.{unequal}
use Rattle.cdf_examples.proofs.PutLemmas.{first_take, puts_only}
use Rattle.cdf_examples.proofs.refused_puts.rest_changed.Goals as goal

refused : Refused spare_file (put_t 0 (codes "7")) rest_changed_file
unfolding spare_file rest_changed_file shape content tiles_from chain_on nodes_of lower_nodes leaves_of entry_leaves entries_on nodes_on levels_on new_room with_leaf
refused acts claim =
    let before : VariableShape = t_shape no_node in
    let after : VariableShape = t_shape (one_node 848 7 (block 0 3 748 false no_entry)) in
    let p = claim.does (found_z (t_data (negsuc 0) [])) before after (record { named = refl; before = refl; after = refl }) in
    let puts = puts_only spare_file rest_changed_file (t_data (negsuc 0) []) 0 before after acts p.index refl in
    let block_take = first_take 28 _ acts puts in
    let node_take = first_take 140 _ block_take.more block_take.rest.1 in
    let all : acts ≡ Took block_take.place 28 ∷ Took node_take.place 140 ∷ [] = block_take.acts_are ∙ ap (λ (more : List Act). Took block_take.place 28 ∷ more) (node_take.acts_are ∙ ap (λ (more : List Act). Took node_take.place 140 ∷ more) node_take.rest.0) in
    let stood : acts ≡ Took 748 28 ∷ Took 848 140 ∷ [] = all ∙ ap₂ (λ (block_at node_at : ℕ). Took block_at 28 ∷ Took node_at 140 ∷ []) block_take.rest.0 (ap link_to node_take.rest.1) in
    let untaken = subst (λ (list : List Act). lies_in_taken list 804 ≡ false) (sym stood) refl in
    unequal 1 0 refl (claim.acts_follow.rests.0.0 (omega arith) (omega arith) 804 (omega arith) (omega arith) untaken)

pub returns : goal.returns
unfolding rest_changed_file rest_listed_file shape content tiles_from chain_on nodes_of lower_nodes leaves_of entry_leaves entries_on nodes_on levels_on nodes_rows used_rows
returns c = record {
  rules = keeps_rules rest_changed_file refl;
  content = refl;
  refused = refused;
}
