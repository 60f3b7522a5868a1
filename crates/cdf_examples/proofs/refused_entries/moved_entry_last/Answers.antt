use Rattle.cdf_examples.proofs.Common.{AttributeShape, Refused, [], ap, chain_on, content, entries_on, entry_last_file, entry_leaves, entry_moved_file, leaves_of, levels_on, lower_nodes, moved_last_file, nodes_of, nodes_on, nodes_rows, put_longer, refl, shape, tiles_from, used_rows, ◌∷◌}
use Rattle.cdf_examples.proofs.Tests.{keeps_rules}
use Rattle.cdf_examples.proofs.Refusing.{unequal}
use Rattle.cdf_examples.proofs.Refusing.{first_number}
use Rattle.cdf_examples.proofs.refused_entries.moved_entry_last.Goals as goal

refused : Refused entry_last_file put_longer moved_last_file
unfolding entry_last_file moved_last_file shape content tiles_from chain_on nodes_of lower_nodes leaves_of entry_leaves entries_on nodes_on levels_on
refused acts claim =
    let before : AttributeShape = record { adr = 404; gr_entries = 728 ∷ 785 ∷ []; z_entries = [] } in
    let after : AttributeShape = record { adr = 404; gr_entries = 785 ∷ 842 ∷ []; z_entries = [] } in
    let p = claim.does 0 before after (record { named = refl; before_is = refl; after_is = refl }) in
    unequal 785 842 refl (ap first_number p.chain.chain_is)

pub returns : goal.returns
unfolding moved_last_file entry_moved_file shape content tiles_from chain_on nodes_of lower_nodes leaves_of entry_leaves entries_on nodes_on levels_on nodes_rows used_rows
returns c = record {
  rules = keeps_rules moved_last_file refl;
  right_rules = keeps_rules entry_moved_file refl;
  refused = refused;
}
