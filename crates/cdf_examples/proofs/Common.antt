-- The names that most proofs of this crate cite, passed on from one place. Declares nothing.
unfoldable pub use Rattle.cdf_base.specs.Bytes.{put}
pub use Rattle.cdf_edits.specs.Commands.Allowances.{AllKeep, Allowance, Allowances, Anything, FreedStay, FreedStays, GivenStay, Keeps, Only, OutsideFields, allowance, is_taken, no_fields, shapes_of}
pub use Rattle.cdf_edits.specs.Commands.Cuts.{SetsCompress, is_deleted}
pub use Rattle.cdf_edits.specs.Commands.Deleting.{Deletes, SetsSparse}
pub use Rattle.cdf_edits.specs.Commands.Does.{Does}
pub use Rattle.cdf_edits.specs.Commands.Entries.{DeletesEntry, PutsEntry}
pub use Rattle.cdf_edits.specs.Commands.EntryChains.{GreatestIs, share_chain}
pub use Rattle.cdf_edits.specs.Commands.Keeps.{allowances}
pub use Rattle.cdf_edits.specs.Commands.Puts.{CutsFirst, FreesFirst, PutsIndex, PutsLeaves, TakesFirst, UnwrittenStay, is_written, max_rec_touches, written_in}
pub use Rattle.cdf_edits.specs.Commands.PutSteps.{Puts}
pub use Rattle.cdf_edits.specs.Commands.Reindex.{FullFromLeft, IsPyramid, MakesIndex, levels_up}
unfoldable pub use Rattle.cdf_edits.specs.Commands.Reindex.{AreTight, EntriesTight, nodes_at, nodes_below}
pub use Rattle.cdf_edits.specs.Commands.Room.{room, room_in}
unfoldable pub use Rattle.cdf_edits.specs.Commands.Room.{entries_below, entries_in, nodes_above, widest, widest_below}
pub use Rattle.cdf_edits.specs.Commands.Variables.{DeletesNamed, DeletesVariable, emptied_fields}
pub use Rattle.cdf_edits.specs.Index.Blocks.{cuts_before_put, fallen, first_written, is_sparse, record_length}
unfoldable pub use Rattle.cdf_edits.specs.Index.Blocks.{cover, entry_firsts, firsts_of}
pub use Rattle.cdf_edits.specs.Index.Cut.{IsNeeded, NodesFreedStay, sized_blocks}
unfoldable pub use Rattle.cdf_edits.specs.Index.Cut.{sized_nodes, sized_nodes_below}
unfoldable pub use Rattle.cdf_edits.specs.Index.Grown.{cut_entries, cut_nodes, entries_outline, new_room, new_room_below, outline, with_leaf, with_lower, with_place, with_place_in}
pub use Rattle.cdf_edits.specs.Index.Written.{AnyOf, EntryIs, NodeSpareStays, NodesFollow, UnusedEntries, is_given_at, is_taken_at, stored_bytes, was_unused}
pub use Rattle.cdf_edits.specs.Space.Acts.{Act, ActsFollow, Among, AreActs, Gave, Happens, RestStays, SpaceLeft, Took, after_act, back_of, gave, lies_in_taken, links_end, loose_records, sized, space_before, taken, used_records}
pub use Rattle.cdf_edits.specs.Space.Placement.{fits, giving, place_for, taken_from, taking, unused}
unfoldable pub use Rattle.cdf_examples.specs.Attributes.{again_file, attribute_file, behind_file, entry_file, freed100_file, freed_file, moved_file, replaced_file, split_file}
pub use Rattle.cdf_examples.specs.ChecksumFile.{checksum_digest}
unfoldable pub use Rattle.cdf_examples.specs.ChecksumFile.{checksum_image}
pub use Rattle.cdf_examples.specs.Claimed.{Refused}
pub use Rattle.cdf_examples.specs.Damage.{Change, EachBreaks, Number, Verdict, changed}
pub use Rattle.cdf_examples.specs.DamagedNew.{damaged_new}
unfoldable pub use Rattle.cdf_examples.specs.DamagedNew.{circle_file, not_owned_file}
pub use Rattle.cdf_examples.specs.DamagedUsual.{damaged_attributes, damaged_chains, damaged_heads, damaged_indexes, damaged_owners, damaged_variables}
unfoldable pub use Rattle.cdf_examples.specs.DeletedVariable.{three_variables, two_variables}
unfoldable pub use Rattle.cdf_examples.specs.Moved.{r_variable_file, set_up_file, with_pad, without_pad}
unfoldable pub use Rattle.cdf_examples.specs.NewFile.{new_file}
pub use Rattle.cdf_examples.specs.OneVariable.{one_node}
pub use Rattle.cdf_examples.specs.PackedFiles.{damaged_packing, r_data}
unfoldable pub use Rattle.cdf_examples.specs.PackedFiles.{not_compressed_file, packed_file, plain_file, unpacked_file}
pub use Rattle.cdf_examples.specs.RecordFiles.{high_first, pad_high_first, records_data, records_index, t_data, t_shape}
unfoldable pub use Rattle.cdf_examples.specs.RecordFiles.{deleted_file, full_file, in_place_file, records_file, reindexed_file, unblocked_file, variable_file}
unfoldable pub use Rattle.cdf_examples.specs.Scripts.{run_script}
unfoldable pub use Rattle.cdf_examples.specs.Spaces.{half_deleted, taken_at_end, taken_in_list}
unfoldable pub use Rattle.cdf_examples.specs.SparseFiles.{cut_block_file, first_sparse_file, foreign_file, foreign_file_after, sparse_file, whole_block_file}
pub use Rattle.cdf_examples.specs.Usual.{usual_digest}
unfoldable pub use Rattle.cdf_examples.specs.Usual.{usual_image}
pub use Rattle.cdf_examples.specs.WideIndexes.{from_the_right_index, reindex_w, root_first_index, two_levels_made_index, w_block_at, w_shape, wide_node_index}
unfoldable pub use Rattle.cdf_examples.specs.WideIndexes.{from_the_right_file, root_first_file, two_levels_made_file, wide_node_file}
pub use Rattle.cdf_examples.specs.WrongCuts.{compress_t, delete_r, delete_t, delete_u, delete_var_t, set_sparse_t, u_data}
unfoldable pub use Rattle.cdf_examples.specs.WrongCuts.{all_deleted_file, bare_node_file, block_moved_file, block_unlisted_file, cpr_at_end_file, cpr_placed_file, cut_unlisted_file, dead_bytes_file, fewer_entries_file, first_cut_file, head_left_file, last_deleted_file, longer_node_file, made_sparse_file, node_freed_file, none_stored_file, one_of_forty_file, packed_elsewhere_file, packed_stays_file, past_cut_file, small_block_file, spare_behind_file, spare_overwritten_file, spare_stays_file, taken_again_file, two_nodes_file, two_of_forty_file, two_packed_file, two_pieces_file, two_stored_file, uncompressed_file, var_deleted_file}
pub use Rattle.cdf_examples.specs.WrongEntries.{delete_second, put_longer, put_second}
unfoldable pub use Rattle.cdf_examples.specs.WrongEntries.{entry_first_file, entry_last_file, entry_moved_file, moved_last_file, one_entry_file, reversed_file, second_deleted_file, three_entries_file}
pub use Rattle.cdf_examples.specs.WrongPuts.{found_z, put_r, put_t}
unfoldable pub use Rattle.cdf_examples.specs.WrongPuts.{first_put_file, leaked_file, long_block_file, long_node_file, long_plain_file, needless_node_file, packed_moved_file, past_changed_file, put_again_file, rest_changed_file, rest_listed_file, rest_unlisted_file, second_block_file, spare_file, too_wide_file, two_levels_file, widened_file}
pub use Rattle.cdf_format.proofs.ChainsLemmas.{chain_sound}
pub use Rattle.cdf_format.proofs.Tests.{both, same_of_bytes_eq}
pub use Rattle.cdf_format.proofs.TilesLemmas.{tiling_sound}
pub use Rattle.cdf_format.specs.Bytes.{Same, byte}
pub use Rattle.cdf_format.specs.Chains.{is_in, is_linkable, next_of}
unfoldable pub use Rattle.cdf_format.specs.Chains.{chain_on}
pub use Rattle.cdf_format.specs.Content.{content_of}
unfoldable pub use Rattle.cdf_format.specs.Content.{content}
pub use Rattle.cdf_format.specs.Fields.{gdr_offset, number, size_at, type_at, word}
unfoldable pub use Rattle.cdf_format.specs.Fields.{with_field, with_name}
pub use Rattle.cdf_format.specs.Index.{Entries, Nodes, block, entry_count, first_at, last_at, link_to, lower, no_entry, no_node, node, offset_at, room_at, used_count}
unfoldable pub use Rattle.cdf_format.specs.Index.{entry_leaves, leaves_of, lower_nodes, nodes_of}
pub use Rattle.cdf_format.specs.IndexRules.{phase8}
unfoldable pub use Rattle.cdf_format.specs.IndexRules.{nodes_rows, used_rows}
pub use Rattle.cdf_format.specs.IndexWalk.{Met, and_then, lost, met, nodes_met}
unfoldable pub use Rattle.cdf_format.specs.IndexWalk.{entries_on, levels_on, nodes_on}
pub use Rattle.cdf_format.specs.NotRead.{unread_variables}
pub use Rattle.cdf_format.specs.Owners.{Owner, owned, owned_records, unused_records}
pub use Rattle.cdf_format.specs.Phases.{all_phases, format_phases, phase10, phase9, phases_around}
pub use Rattle.cdf_format.specs.RecordTypes.{cvvr_type, uir_type, vxr_type}
pub use Rattle.cdf_format.specs.Records.{Field, field, gdr_uir_head, record_size, record_type, uir_next_uir, uir_prev_uir, vdr_vxr_head, vxr_bytes, vxr_first, vxr_last, vxr_n_entries, vxr_offset}
pub use Rattle.cdf_format.specs.Rules.{AllHold, FirstBroken, Hold, IsBroken, Row}
pub use Rattle.cdf_format.specs.Sealed.{image_of, sealed}
pub use Rattle.cdf_format.specs.Shape.{AttributeShape, Each, Shape, VariableShape, adr_chain, adrs, attribute_shape, cpr_of, r_vdr_chain, shape_in, uir_chain, variable_shape, variables, vdrs, z_vdr_chain}
unfoldable pub use Rattle.cdf_format.specs.Shape.{shape}
pub use Rattle.cdf_format.specs.Tiles.{In, tiles}
unfoldable pub use Rattle.cdf_format.specs.Tiles.{tiles_from}
pub use Rattle.cdf_format.specs.WellFormed.{Breaks, KeepsFormat, WellFormed}
pub use Rattle.cdf_model.specs.DataSet.{Attribute, Variable}
pub use Rattle.cdf_model.specs.Names.{Found, attribute_named, variable_named}
pub use Rattle.cdf_model.specs.declared.command.Command.{Command}
pub use Rattle.cdf_model.specs.declared.kinds.EntryKind.{EntryKind}
unfoldable pub use Rattle.md5.specs.Md5.{block_words, compress, digest_bytes, hash_after, md5, rounds}
pub use Rattle.std.proofs.Common.{Bool, List, [], ap, ap₂, arith, bytes_eq, codes, drop, eq-eqb, false, inl, inr, length, min, negsuc, not, pos, refl, replicate, subst, suc, sym, take, true, true≢false, zero, ℕ, ◌*◌, ◌++◌, ◌+◌, ◌-◌, ◌<◌, ◌==◌, ◌^◌, ◌||◌, ◌∙◌, ◌∷◌, ◌≡◌, ◌≢◌, ◌≤◌, ◌⊎◌}
pub use Rattle.std.proofs.lemmas.Bool.{cases_lt, eqb-true, leb-true, lt-ltb, or_cases, or_parts}
pub use Rattle.std.proofs.lemmas.List.{drop-drop, get_or-drop}
unfoldable pub use Rattle.std.specs.Fmt.{digits}
pub use Rattle.std.specs.List.{filter, fold, list_any, range_with_len, slice_get, sum}
pub use Rattle.std.specs.Prelude.{None, Some, if◌then◌else◌, map, nat_le, nat_lt, slice_index, ◌&&◌}
pub use Rattle.std.specs.declared.option.Option.{Option}
