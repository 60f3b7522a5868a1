use Rattle.cdf_examples.proofs.Common.{AreActs, Refused, VariableShape, [], chain_on, compress_t, content, cpr_at_end_file, cpr_placed_file, cut_entries, cut_nodes, entries_on, entries_outline, entry_leaves, found_z, leaves_of, levels_on, lower_nodes, negsuc, no_node, nodes_of, nodes_on, nodes_rows, outline, refl, shape, sized_nodes, sized_nodes_below, space_before, subst, t_data, t_shape, tiles_from, uncompressed_file, used_rows, ◌∷◌}
use Rattle.cdf_examples.proofs.Tests.{keeps_rules}
use Rattle.cdf_examples.proofs.Refusing.{unequal}
use Rattle.cdf_examples.proofs.CutLemmas.{not_at_end}
use Rattle.cdf_examples.proofs.refused_cuts.cpr_at_end.Goals as goal

refused : Refused uncompressed_file compress_t cpr_at_end_file
unfolding uncompressed_file cpr_at_end_file shape content tiles_from chain_on nodes_of lower_nodes leaves_of entry_leaves entries_on nodes_on levels_on cut_nodes cut_entries outline entries_outline sized_nodes sized_nodes_below
refused acts claim =
    let before : VariableShape = t_shape no_node in
    let after : VariableShape = record { vdr = 404; index = no_node; cpr = 776 ∷ [] } in
    let p = claim.does (found_z (t_data (negsuc 0) [])) before after (record { named = refl; before = refl; after = refl }) in
    let are = subst (AreActs (space_before uncompressed_file)) p.acts_are claim.acts_follow.are in
    not_at_end p.cut 776 28 (space_before uncompressed_file) p.cuts.takes_none
    (record { fit = refl; listed_before = (unequal 748 776 refl, tt); used_before = (unequal 8 776 refl, (unequal 320 776 refl, (unequal 404 776 refl, tt))) }) are refl

pub returns : goal.returns
unfolding cpr_at_end_file cpr_placed_file shape content tiles_from chain_on nodes_of lower_nodes leaves_of entry_leaves entries_on nodes_on levels_on nodes_rows used_rows
returns c = record {
  rules = keeps_rules cpr_at_end_file refl;
  content = refl;
  refused = refused;
}
