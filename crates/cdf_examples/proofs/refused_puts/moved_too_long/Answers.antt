use Rattle.cdf_examples.proofs.Common.{Act, Among, Found, Gave, List, Nodes, Refused, Took, VariableShape, [], ap, arith, block, chain_on, codes, content, entries_on, entry_leaves, false, found_z, inl, inr, leaves_of, levels_on, long_plain_file, lower_nodes, no_entry, nodes_of, nodes_on, nodes_rows, one_node, packed_file, plain_file, pos, put_r, r_data, refl, replicate, shape, Some, subst, sym, taken, tiles_from, true, used_rows, with_place, with_place_in, ◌∷◌, ◌≡◌}
use Rattle.cdf_edits.specs.Commands.PutSteps.{PutsBySteps, leaf_step}
use Rattle.cdf_format.specs.Index.{Leaf, leaf}
use Rattle.cdf_examples.proofs.Deciding.{or_else}
use Rattle.cdf_examples.proofs.Tests.{keeps_rules}
use Rattle.cdf_examples.proofs.Refusing.{is_taken_if, no_size}
use Rattle.cdf_examples.proofs.Stepping.{put_at_once}
use Rattle.cdf_examples.proofs.refused_puts.moved_too_long.Goals as goal

refused : Refused packed_file (put_r (codes "1")) long_plain_file
unfolding packed_file long_plain_file shape content tiles_from chain_on nodes_of lower_nodes leaves_of entry_leaves entries_on nodes_on levels_on with_place with_place_in
refused acts claim =
    let before : VariableShape = record { vdr = 404; index = one_node 812 7 (block 0 0 784 true no_entry); cpr = 756 ∷ [] } in
    let after : VariableShape = record { vdr = 404; index = one_node 812 7 (block 0 0 952 false no_entry); cpr = 756 ∷ [] } in
    let found : Found = found_z (r_data (pos 0) ((0, replicate 40 0) ∷ [])) in
    let p : PutsBySteps packed_file long_plain_file found 0 before acts = claim.does found before after (record { named = refl; before = refl; after = refl }) in
    let one = put_at_once p refl (omega arith) 0 (omega arith) refl refl 0 refl refl after refl in
    let new_is : leaf 0 0 952 false ≡ one.new = ap (or_else (leaf 0 0 952 false)) one.has in
    let led : (after.index, acts) ≡ leaf_step packed_file long_plain_file true 404 before.index (Some (leaf 0 0 784 true)) (leaf 0 0 952 false) one.at =
    subst (λ (new : Leaf). (after.index, acts) ≡ leaf_step packed_file long_plain_file true 404 before.index (Some (leaf 0 0 784 true)) new one.at) (sym new_is) one.step in
    let all : acts ≡ Took 952 52 ∷ Gave 784 28 ∷ [] = ap (λ (pair : Nodes × List Act). pair.1) led in
    no_size (952, 60) (taken (Took 952 52 ∷ Gave 784 28 ∷ [])) refl
    (subst (λ (list : List Act). Among (952, 60) (taken list)) all (is_taken_if claim.acts_follow 952 (inr (inr (inr (inr (inr (inl refl)))))) refl))

pub returns : goal.returns
unfolding long_plain_file plain_file shape content tiles_from chain_on nodes_of lower_nodes leaves_of entry_leaves entries_on nodes_on levels_on nodes_rows used_rows
returns c = record {
  rules = keeps_rules long_plain_file refl;
  content = refl;
  refused = refused;
}
