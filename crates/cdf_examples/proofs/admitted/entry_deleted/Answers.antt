use Rattle.cdf_examples.proofs.Common.{ActsFollow, AllKeep, AttributeShape, DeletesEntry, Does, EntryKind, Gave, GreatestIs, [], allowances, arith, chain_on, codes, content, cover, cut_entries, cut_nodes, delete_second, digits, entries_below, entries_in, entries_on, entries_outline, entry_firsts, entry_leaves, firsts_of, leaves_of, levels_on, lower_nodes, new_room, new_room_below, no_fields, nodes_above, nodes_of, nodes_on, nodes_rows, outline, owned, refl, run_script, second_deleted_file, shape, share_chain, sized_nodes, sized_nodes_below, three_entries_file, tiles_from, used_rows, widest, widest_below, with_leaf, with_lower, ◌∷◌}
use Rattle.cdf_examples.proofs.Deciding.{acts_follow_if, all_keep_if}
use Rattle.cdf_examples.proofs.Deciding.{of_attribute, freed_if}
use Rattle.cdf_model.specs.declared.kinds.EntryKind.TheVariants as entries
use Rattle.cdf_examples.proofs.admitted.entry_deleted.Goals as goal

follow : ActsFollow three_entries_file second_deleted_file (Gave 785 57 ∷ [])
unfolding three_entries_file second_deleted_file shape content tiles_from chain_on nodes_of lower_nodes leaves_of entry_leaves entries_on nodes_on levels_on
follow = acts_follow_if three_entries_file second_deleted_file (Gave 785 57 ∷ []) refl refl refl refl refl refl refl

keep : AllKeep three_entries_file second_deleted_file (allowances three_entries_file (content three_entries_file) (shape three_entries_file) delete_second) (Gave 785 57 ∷ []) (owned three_entries_file (shape three_entries_file))
unfolding three_entries_file second_deleted_file shape content tiles_from chain_on nodes_of lower_nodes leaves_of entry_leaves entries_on nodes_on levels_on
keep = all_keep_if three_entries_file second_deleted_file (allowances three_entries_file (content three_entries_file) (shape three_entries_file) delete_second) (Gave 785 57 ∷ []) (owned three_entries_file (shape three_entries_file)) refl

does : Does three_entries_file delete_second second_deleted_file (Gave 785 57 ∷ [])
unfolding three_entries_file second_deleted_file shape content tiles_from chain_on nodes_of lower_nodes leaves_of entry_leaves entries_on nodes_on levels_on entries_in entries_below widest widest_below nodes_above firsts_of entry_firsts cover new_room with_leaf new_room_below with_lower cut_nodes cut_entries outline entries_outline sized_nodes sized_nodes_below
does = of_attribute three_entries_file second_deleted_file (codes "Project") (λ a a'. DeletesEntry three_entries_file second_deleted_file a a' entries.G 1 (Gave 785 57 ∷ [])) _ before after refl refl refl (record {
  acts_are = refl;
  chain = record { chain_is = refl; greatest_is = greatest };
  freed = freed_if three_entries_file second_deleted_file no_fields (Gave 785 57 ∷ []) refl;
})
  where
    before : AttributeShape
    before = record { adr = 404; gr_entries = 728 ∷ 785 ∷ 842 ∷ []; z_entries = [] }

    after : AttributeShape
    after = record { adr = 404; gr_entries = 728 ∷ 842 ∷ []; z_entries = [] }

    greatest : (kind : EntryKind) → GreatestIs three_entries_file second_deleted_file before after kind (share_chain entries.G kind)
    greatest entries.G = refl
    greatest entries.R = refl
    greatest entries.Z = refl

pub returns : goal.returns
unfolding three_entries_file second_deleted_file shape content tiles_from chain_on nodes_of lower_nodes leaves_of entry_leaves entries_on nodes_on levels_on nodes_rows used_rows run_script digits entries_in entries_below widest widest_below nodes_above firsts_of entry_firsts cover
returns c = record {
  made = refl;
  follows = record { within = omega arith; acts_follow = follow; keeps = keep; does = does };
}
