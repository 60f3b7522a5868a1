use Rattle.cdf_examples.proofs.Common.{Anything, Bool, Keeps, Only, Refused, VariableShape, [], arith, block, chain_on, content, cut_entries, cut_nodes, delete_t, entries_on, entries_outline, entry_leaves, false, found_z, if◌then◌else◌, inr, is_taken, leaves_of, levels_on, lower_nodes, nat_le, nat_lt, no_entry, nodes_of, nodes_on, nodes_rows, one_node, outline, records_data, records_index, refl, shape, sized_nodes, sized_nodes_below, spare_behind_file, spare_overwritten_file, spare_stays_file, subst, t_shape, taken, tiles_from, uir_next_uir, uir_prev_uir, used_rows, ◌&&◌, ◌∷◌, ◌≡◌}
use Rattle.cdf_examples.proofs.Tests.{keeps_rules}
use Rattle.cdf_examples.proofs.Refusing.{unequal}
use Rattle.cdf_examples.proofs.CutLemmas.{none_taken}
use Rattle.cdf_examples.proofs.refused_cuts.listed_overwritten.Goals as goal

refused : Refused spare_behind_file (delete_t 3 3) spare_overwritten_file
unfolding spare_behind_file spare_overwritten_file shape content tiles_from chain_on nodes_of lower_nodes leaves_of entry_leaves entries_on nodes_on levels_on cut_nodes cut_entries outline entries_outline sized_nodes sized_nodes_below
refused acts claim =
    let before : VariableShape = t_shape records_index in
    let after : VariableShape = t_shape (one_node 776 7 (block 0 2 748 false no_entry)) in
    let p = claim.does (found_z records_data) before after (record { named = refl; before = refl; after = refl }) in
    let free : is_taken spare_behind_file acts 916 ≡ false = none_taken records_data after.index (taken acts) (λ place. nat_le 916 place && nat_lt place 956) p.cuts.takes refl refl in
    let kept = subst (λ (q : Bool). Keeps spare_behind_file spare_overwritten_file 916 (if q then Anything else Only (uir_next_uir ∷ uir_prev_uir ∷ []))) free claim.keeps.1.1.1.1.1.0 in
    unequal 7 0 refl (kept.same 28 (omega arith) (inr (omega arith), (inr (omega arith), tt)))

pub returns : goal.returns
unfolding spare_overwritten_file spare_stays_file shape content tiles_from chain_on nodes_of lower_nodes leaves_of entry_leaves entries_on nodes_on levels_on nodes_rows used_rows
returns c = record {
  rules = keeps_rules spare_overwritten_file refl;
  content = refl;
  refused = refused;
}
