use Rattle.cdf_examples.proofs.Common.{Refused, VariableShape, [], ap, arith, chain_on, codes, content, entries_on, entry_leaves, first_put_file, found_z, high_first, inr, leaves_of, levels_on, lower_nodes, new_room, nodes_of, nodes_on, nodes_rows, past_changed_file, pos, put_again_file, put_t, records_index, refl, shape, t_data, t_shape, tiles_from, used_rows, with_leaf, ◌∷◌}
use Rattle.cdf_examples.proofs.Tests.{keeps_rules}
use Rattle.cdf_examples.proofs.Refusing.{unequal, first_byte}
use Rattle.cdf_examples.proofs.PutLemmas.{puts_only}
use Rattle.cdf_examples.proofs.refused_puts.past_max_rec_changed.Goals as goal

refused : Refused first_put_file (put_t 0 (codes "8")) past_changed_file
unfolding first_put_file past_changed_file shape content tiles_from chain_on nodes_of lower_nodes leaves_of entry_leaves entries_on nodes_on levels_on new_room with_leaf
refused acts claim =
    let before : VariableShape = t_shape records_index in
    let after : VariableShape = t_shape records_index in
    let p = claim.does (found_z (t_data (pos 0) ((0, high_first 7) ∷ []))) before after (record { named = refl; before = refl; after = refl }) in
    let puts = puts_only first_put_file past_changed_file (t_data (pos 0) ((0, high_first 7) ∷ [])) 0 before after acts p.index refl in
    unequal 5 1 refl (ap first_byte (p.bytes.unwritten_stay 2 refl (inr (omega arith))))

pub returns : goal.returns
unfolding past_changed_file put_again_file shape content tiles_from chain_on nodes_of lower_nodes leaves_of entry_leaves entries_on nodes_on levels_on nodes_rows used_rows
returns c = record {
  rules = keeps_rules past_changed_file refl;
  content = refl;
  refused = refused;
}
