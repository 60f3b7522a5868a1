use Rattle.cdf_examples.proofs.Common.{Act, ActsFollow, AllKeep, Does, Found, Gave, KeepsFormat, List, SetsSparse, [], all_deleted_file, allowances, arith, chain_on, codes, content, cover, cut_entries, cut_nodes, digits, entries_below, entries_in, entries_on, entries_outline, entry_firsts, entry_leaves, firsts_of, found_z, leaves_of, levels_on, lower_nodes, made_sparse_file, nat_lt, negsuc, new_room, new_room_below, no_fields, no_node, nodes_above, nodes_of, nodes_on, nodes_rows, none_stored_file, outline, owned, records_index, refl, run_script, sealed, set_sparse_t, shape, sized_nodes, sized_nodes_below, subst, sym, t_data, t_shape, tiles_from, used_rows, widest, widest_below, with_leaf, with_lower, ℕ, ◌∷◌, ◌≡◌}
use Rattle.cdf_model.specs.Limits.{record_number_limit}
use Rattle.cdf_model.specs.declared.kinds.Sparse.TheVariants.{Pad}
use Rattle.cdf_edits.specs.Commands.Deleting.{CutsOpen, untouched}
use Rattle.cdf_edits.specs.Commands.PutSteps.{Goes, Stage, step_changes}
use Rattle.cdf_edits.specs.Frame.Changed.{touched_field}
use Rattle.cdf_edits.specs.Index.Blocks.{shared}
use Rattle.cdf_format.specs.Records.{vdr_s_records}
use Rattle.cdf_format.specs.WellFormed.{Good}
use Rattle.cdf_examples.proofs.BytesKept.{changed_by}
use Rattle.cdf_examples.proofs.Tests.{keeps_rules}
use Rattle.cdf_examples.proofs.Deciding.{acts_follow_if, all_keep_if}
use Rattle.cdf_examples.proofs.Deciding.{of_variable, freed_if}
use Rattle.cdf_examples.proofs.admitted.made_sparse.Goals as goal

abbrev acts : List Act
acts = Gave 748 28 ∷ Gave 776 140 ∷ []

follow : ActsFollow none_stored_file made_sparse_file acts
unfolding none_stored_file made_sparse_file shape content tiles_from chain_on nodes_of lower_nodes leaves_of entry_leaves entries_on nodes_on levels_on
follow = acts_follow_if none_stored_file made_sparse_file acts refl refl refl refl refl refl refl

keep : AllKeep none_stored_file made_sparse_file (allowances none_stored_file (content none_stored_file) (shape none_stored_file) set_sparse_t) acts (owned none_stored_file (shape none_stored_file))
unfolding none_stored_file made_sparse_file shape content tiles_from chain_on nodes_of lower_nodes leaves_of entry_leaves entries_on nodes_on levels_on
keep = all_keep_if none_stored_file made_sparse_file (allowances none_stored_file (content none_stored_file) (shape none_stored_file) set_sparse_t) acts (owned none_stored_file (shape none_stored_file)) refl

-- ---- the records go first

abbrev found : Found
found = found_z (t_data (negsuc 0) [])

abbrev start : Stage
start = untouched none_stored_file (t_shape records_index)

abbrev left : Stage
left = record { image = all_deleted_file; own = t_shape no_node; acts = acts; next = 0 }

left_follow : ActsFollow none_stored_file all_deleted_file acts
unfolding none_stored_file all_deleted_file shape content tiles_from chain_on nodes_of lower_nodes leaves_of entry_leaves entries_on nodes_on levels_on
left_follow = acts_follow_if none_stored_file all_deleted_file acts refl refl refl refl refl refl refl

left_keep : AllKeep none_stored_file all_deleted_file (step_changes none_stored_file found (λ r. nat_lt 0 (shared 0 record_number_limit r))) acts (owned none_stored_file (shape none_stored_file))
unfolding none_stored_file all_deleted_file shape content tiles_from chain_on nodes_of lower_nodes leaves_of entry_leaves entries_on nodes_on levels_on
left_keep = all_keep_if none_stored_file all_deleted_file (step_changes none_stored_file found (λ r. nat_lt 0 (shared 0 record_number_limit r))) acts (owned none_stored_file (shape none_stored_file)) refl

no_trailer : sealed all_deleted_file ≡ all_deleted_file
unfolding all_deleted_file
no_trailer = refl

left_good : Good all_deleted_file
unfolding all_deleted_file shape content tiles_from chain_on nodes_of lower_nodes leaves_of entry_leaves entries_on nodes_on levels_on nodes_rows used_rows
left_good = subst (λ (f : List ℕ). KeepsFormat f) (sym no_trailer) (keeps_rules all_deleted_file refl)

left_goes : Goes found start left (λ r. nat_lt 0 (shared 0 record_number_limit r))
unfolding none_stored_file all_deleted_file shape content tiles_from chain_on nodes_of lower_nodes leaves_of entry_leaves entries_on nodes_on levels_on
left_goes = record { good = left_good; stands = refl; acts_follow = left_follow; keeps = left_keep; unused = tt; spare = tt; tail = refl; freed = freed_if none_stored_file all_deleted_file no_fields acts refl }

left_cuts : CutsOpen found 0 record_number_limit start left
unfolding nodes_of lower_nodes leaves_of entry_leaves new_room with_leaf new_room_below with_lower cut_nodes cut_entries outline entries_outline sized_nodes sized_nodes_below
left_cuts = record {
  index = record { index_is = refl; apart = refl; once = refl; frees = (refl, (refl, tt)); takes = tt; stand = tt; stay = (tt, tt) };
  kept = (tt, tt);
  split = (tt, tt);
  goes = left_goes;
  next_is = refl;
}

-- ---- then the rule is written

does : Does none_stored_file set_sparse_t made_sparse_file acts
unfolding none_stored_file all_deleted_file made_sparse_file shape content tiles_from chain_on nodes_of lower_nodes leaves_of entry_leaves entries_on nodes_on levels_on
does = of_variable none_stored_file made_sparse_file (codes "T") (λ found v v'. SetsSparse none_stored_file made_sparse_file found Pad v v' acts) found (t_shape records_index) (t_shape no_node) refl refl refl (record {
  left = left;
  cuts = left_cuts;
  acts_are = refl;
  stands = refl;
  changed = changed_by all_deleted_file made_sparse_file (touched_field 404 vdr_s_records ∷ []) (omega arith) refl;
  as_long = refl;
  rule_is = refl;
})

pub returns : goal.returns
unfolding none_stored_file made_sparse_file shape content tiles_from chain_on nodes_of lower_nodes leaves_of entry_leaves entries_on nodes_on levels_on nodes_rows used_rows run_script digits entries_in entries_below widest widest_below nodes_above firsts_of entry_firsts cover
returns c = record {
  rules = keeps_rules made_sparse_file refl;
  made = refl;
  follows = record { within = omega arith; acts_follow = follow; keeps = keep; does = does };
}
