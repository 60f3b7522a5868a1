use Rattle.cdf_examples.proofs.Common.{AttributeShape, Refused, [], ap, chain_on, content, delete_second, entries_on, entry_leaves, leaves_of, levels_on, lower_nodes, nodes_of, nodes_on, nodes_rows, refl, reversed_file, second_deleted_file, shape, three_entries_file, tiles_from, used_rows, ◌∷◌}
use Rattle.cdf_examples.proofs.Tests.{keeps_rules}
use Rattle.cdf_examples.proofs.Refusing.{unequal}
use Rattle.cdf_examples.proofs.Refusing.{first_number}
use Rattle.cdf_examples.proofs.refused_entries.chain_reversed.Goals as goal

refused : Refused three_entries_file delete_second reversed_file
unfolding three_entries_file reversed_file shape content tiles_from chain_on nodes_of lower_nodes leaves_of entry_leaves entries_on nodes_on levels_on
refused acts claim =
    let before : AttributeShape = record { adr = 404; gr_entries = 728 ∷ 785 ∷ 842 ∷ []; z_entries = [] } in
    let after : AttributeShape = record { adr = 404; gr_entries = 842 ∷ 728 ∷ []; z_entries = [] } in
    let p = claim.does 0 before after (record { named = refl; before_is = refl; after_is = refl }) in
    unequal 842 728 refl (ap first_number p.chain.chain_is)

pub returns : goal.returns
unfolding reversed_file second_deleted_file shape content tiles_from chain_on nodes_of lower_nodes leaves_of entry_leaves entries_on nodes_on levels_on nodes_rows used_rows
returns c = record {
  rules = keeps_rules reversed_file refl;
  right_rules = keeps_rules second_deleted_file refl;
  refused = refused;
}
