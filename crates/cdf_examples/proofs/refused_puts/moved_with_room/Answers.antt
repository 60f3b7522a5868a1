use Rattle.cdf_examples.proofs.Common.{Act, Found, List, Nodes, Refused, Some, VariableShape, [], ap, arith, block, chain_on, codes, content, entries_on, entry_leaves, found_z, leaves_of, levels_on, lower_nodes, map, no_entry, nodes_of, nodes_on, nodes_rows, one_node, packed_file, packed_moved_file, pos, put_r, r_data, refl, replicate, shape, subst, sym, tiles_from, true, used_rows, ◌∷◌, ◌≡◌}
use Rattle.cdf_edits.specs.Commands.PutSteps.{PutsBySteps, leaf_step}
use Rattle.cdf_format.specs.Index.{Leaf, leaf}
use Rattle.cdf_examples.proofs.Deciding.{or_else}
use Rattle.cdf_examples.proofs.Tests.{keeps_rules}
use Rattle.cdf_examples.proofs.Refusing.{first_number, unequal}
use Rattle.cdf_examples.proofs.Stepping.{put_at_once}
use Rattle.cdf_examples.proofs.refused_puts.moved_with_room.Goals as goal

refused : Refused packed_file (put_r (codes "0")) packed_moved_file
unfolding packed_file packed_moved_file shape content tiles_from chain_on nodes_of lower_nodes leaves_of entry_leaves entries_on nodes_on levels_on
refused acts claim =
    let before : VariableShape = record { vdr = 404; index = one_node 812 7 (block 0 0 784 true no_entry); cpr = 756 ∷ [] } in
    let after : VariableShape = record { vdr = 404; index = one_node 812 7 (block 0 0 952 true no_entry); cpr = 756 ∷ [] } in
    let found : Found = found_z (r_data (pos 0) ((0, replicate 40 0) ∷ [])) in
    let p : PutsBySteps packed_file packed_moved_file found 0 before acts = claim.does found before after (record { named = refl; before = refl; after = refl }) in
    let one = put_at_once p refl (omega arith) 0 (omega arith) refl refl 0 refl refl after refl in
    let new_is : leaf 0 0 952 true ≡ one.new = ap (or_else (leaf 0 0 952 true)) one.has in
    let led : (after.index, acts) ≡ leaf_step packed_file packed_moved_file true 404 before.index (Some (leaf 0 0 784 true)) (leaf 0 0 952 true) one.at =
    subst (λ (new : Leaf). (after.index, acts) ≡ leaf_step packed_file packed_moved_file true 404 before.index (Some (leaf 0 0 784 true)) new one.at) (sym new_is) one.step in
    unequal 952 784 refl (ap (λ (pair : Nodes × List Act). first_number (map (λ leaf. leaf.place) (leaves_of pair.0))) led)

pub returns : goal.returns
unfolding packed_moved_file packed_file shape content tiles_from chain_on nodes_of lower_nodes leaves_of entry_leaves entries_on nodes_on levels_on nodes_rows used_rows
returns c = record {
  rules = keeps_rules packed_moved_file refl;
  content = refl;
  refused = refused;
}
