use Rattle.cdf_examples.proofs.Common.{ActsFollow, AllKeep, AttributeShape, Does, EntryKind, GreatestIs, PutsEntry, Took, [], allowances, arith, chain_on, codes, content, cover, cut_entries, cut_nodes, digits, entries_below, entries_in, entries_on, entries_outline, entry_firsts, entry_last_file, entry_leaves, firsts_of, leaves_of, levels_on, lower_nodes, new_room, new_room_below, nodes_above, nodes_of, nodes_on, nodes_rows, one_entry_file, outline, owned, put_second, refl, run_script, shape, share_chain, sized_nodes, sized_nodes_below, tiles_from, used_rows, widest, widest_below, with_leaf, with_lower, ◌∷◌}
use Rattle.cdf_examples.proofs.Deciding.{acts_follow_if, all_keep_if}
use Rattle.cdf_examples.proofs.Deciding.{of_attribute}
use Rattle.cdf_model.specs.declared.kinds.EntryKind.TheVariants as entries
use Rattle.cdf_examples.proofs.admitted.entry_appended.Goals as goal

follow : ActsFollow one_entry_file entry_last_file (Took 785 57 ∷ [])
unfolding one_entry_file entry_last_file shape content tiles_from chain_on nodes_of lower_nodes leaves_of entry_leaves entries_on nodes_on levels_on
follow = acts_follow_if one_entry_file entry_last_file (Took 785 57 ∷ []) refl refl refl refl refl refl refl

keep : AllKeep one_entry_file entry_last_file (allowances one_entry_file (content one_entry_file) (shape one_entry_file) put_second) (Took 785 57 ∷ []) (owned one_entry_file (shape one_entry_file))
unfolding one_entry_file entry_last_file shape content tiles_from chain_on nodes_of lower_nodes leaves_of entry_leaves entries_on nodes_on levels_on
keep = all_keep_if one_entry_file entry_last_file (allowances one_entry_file (content one_entry_file) (shape one_entry_file) put_second) (Took 785 57 ∷ []) (owned one_entry_file (shape one_entry_file)) refl

does : Does one_entry_file put_second entry_last_file (Took 785 57 ∷ [])
unfolding one_entry_file entry_last_file shape content tiles_from chain_on nodes_of lower_nodes leaves_of entry_leaves entries_on nodes_on levels_on entries_in entries_below widest widest_below nodes_above firsts_of entry_firsts cover new_room with_leaf new_room_below with_lower cut_nodes cut_entries outline entries_outline sized_nodes sized_nodes_below
does = of_attribute one_entry_file entry_last_file (codes "Project") (λ a a'. PutsEntry one_entry_file entry_last_file a a' entries.G 1 (Took 785 57 ∷ [])) _ before after refl refl refl (record {
  aedr = 785;
  stands = refl;
  follows = (refl, (refl, (refl, (refl, (refl, tt)))));
  no_strings = refl;
  chain = record { chain_is = refl; greatest_is = greatest };
  freed = tt;
})
  where
    before : AttributeShape
    before = record { adr = 404; gr_entries = 728 ∷ []; z_entries = [] }

    after : AttributeShape
    after = record { adr = 404; gr_entries = 728 ∷ 785 ∷ []; z_entries = [] }

    greatest : (kind : EntryKind) → GreatestIs one_entry_file entry_last_file before after kind (share_chain entries.G kind)
    greatest entries.G = refl
    greatest entries.R = refl
    greatest entries.Z = refl

pub returns : goal.returns
unfolding one_entry_file entry_last_file shape content tiles_from chain_on nodes_of lower_nodes leaves_of entry_leaves entries_on nodes_on levels_on nodes_rows used_rows run_script digits entries_in entries_below widest widest_below nodes_above firsts_of entry_firsts cover
returns c = record {
  made = refl;
  follows = record { within = omega arith; acts_follow = follow; keeps = keep; does = does };
}
