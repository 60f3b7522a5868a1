-- The names that most proofs of this crate cite, passed on from one place. Declares nothing.
pub use Rattle.cdf_area.proofs.Calls.{edit_once}
pub use Rattle.cdf_edits.proofs.Commands.ReadingFollows.{staying_follows}
pub use Rattle.cdf_edits.proofs.Common.{take, w32, Act, ActsFollow, AllGiven, AllKeep, Allowances, AreFree, AreTiles, Bool, ByStep, DataSet, Each, Each-split, Edit, Entries, Field, Fills, Follows, Found, FreedStay, GivenStay, Go, Good, HasVariable, Hold, Hold-split, In, In-append, In-append_left, In-append_right, IsChain, IsIndex, IsNode, IsSound, Kind, Leaf, LeafFits, LiesIn, List, Mark, NodeFits, Nodes, None, Only, Option, R, Range, Same, SayEntries, SaysEntry, SaysNode, Shape, Some, Takes, Took, Variable, VariableFits, VariableShape, Z, [], ap, append-nil, append_assoc, ap₂, arith, avoided, block, cases_lt, cast_signed, content, content_is, cpr_type, cvvr_type, entry_count, eof, eq-eqb, eqb-true, false, field, field_reads, fixed_size, flat_map, freeing_marks, gave, gdr_eof, gdr_offset, gdr_type, gdr_uir_head, get_or, good_by_its_shape, good_is_sound, good_long, if◌then◌else◌, image_limit, index_rows, inl, inr, is_a, is_a-type, is_block, is_in, is_in-true, is_record_type, keeps_file, last_or, leaf_rows, length, length-append, length-map, length-with_field, link_to, linkable-from, linkable-type, links_end, lower, map, map-append, min, nat_le, nat_lt, nat_tests, negsuc, next_of, nil_from_length, no_entry, no_fields, no_node, node, nodes_rows, nodes_stand, number, number_kept, option_map, other_words, owned, owned_records, pos, range_at, record_number_limit, records_in, refl, room, room_at, rules_of_good, sealed_kept, shape, shapes_of, size_at, size_kept, slice_get, space_fields, stays_all, subst, suc, sum, sym, taken, times, times-none, times-once, true, true≢false, type_at, type_in, type_kept, uir_type, unmarked, variable_named, variable_of, variable_records, variables, variables_chain, variables_of, vdr_vxr_head, vdr_vxr_tail, vdrs, vvr_type, vxr_bytes, vxr_n_used_entries, vxr_type, with_field, with_space, with_variables, with_writes, write, zero, ℕ, ◌&&◌, ◌*◌, ◌++◌, ◌+◌, ◌-◌, ◌<◌, ◌^◌, ◌∙◌, ◌∷◌, ◌≡◌, ◌≢◌, ◌≤◌, ◌⊎◌, is_linkable, linkable-in, linkable-long}
pub use Rattle.cdf_edits.proofs.Edits.ActsThen.{taken-gave}
pub use Rattle.cdf_edits.proofs.Edits.Common.{in-times, Each-map, Kept, MayWrite, StandsAmong, acts_still_by, all_gave, apart, behind_in, content_now, distinct_if, each, edit_then, edit_under, eof_by_rules, Frees, all_freed, freed_edit, freed_long, freed_places, freed_records, freed_shape, freeing_behind, gdr_still, may_free, others_kept, sizes_before, sound_now, fits, gave-same, gdr_field, gdr_place, got-middle, has, kept, kept_away, long, name_room, none_in_use, not_twice_kept, of_kind, owned-times, same_as_itself, sizes_by_tiles, some_bytes, sound, sound_if, spliced_times, through, tile, times-append, times-in, typed, unmarked-away, used_times, with_shapes, write_lies, writes_edit, writes_long}
pub use Rattle.cdf_edits.proofs.Edits.FreedBytes.{freed_stay}
pub use Rattle.cdf_edits.proofs.Edits.IndexEdited.{IndexEdit, file, stays, vdr_alike, vdr_size}
pub use Rattle.cdf_edits.proofs.Edits.LeafPieces.{each_of}
pub use Rattle.cdf_edits.proofs.Edits.MadeRecord.{filled_size, place_in}
pub use Rattle.cdf_edits.proofs.Edits.OnlyTaken.{none_of_both}
pub use Rattle.cdf_edits.proofs.Edits.OwnEdited.{OwnEdit, same_shape, splices}
pub use Rattle.cdf_edits.proofs.Edits.OwnedOnce.{fresh_unowned}
pub use Rattle.cdf_edits.proofs.Edits.RecordFrame.{chain_stays}
pub use Rattle.cdf_edits.proofs.Edits.RecordGrown.{ends}
pub use Rattle.cdf_edits.proofs.Edits.RecordPlaced.{links_mark, placed_grows}
pub use Rattle.cdf_edits.proofs.Edits.TakenAll.{TakenAll, listed_free, none_taken, taken_then, taking_all, unlisted_away}
pub use Rattle.cdf_edits.proofs.Edits.VariableCopied.{block_behind, cpr_behind, node_behind}
pub use Rattle.cdf_edits.proofs.Edits.VariableFrame.{each_holds}
pub use Rattle.cdf_edits.proofs.Edits.VariableKinds.{by_kind, variables_of_are}
pub use Rattle.cdf_edits.proofs.Frame.LinksStay.{nodes_kept}
pub use Rattle.cdf_edits.proofs.Frame.VdrAlike.{block_fits_alike, plain_alike, records_alike}
pub use Rattle.cdf_edits.proofs.Frame.VdrStays.{end_stays, packed_stays, stays_alike, variable_stays}
pub use Rattle.cdf_edits.proofs.Rules.OfIndexes.{leaf_same}
pub use Rattle.cdf_edits.specs.Commands.Named.{OfVariable}
unfoldable pub use Rattle.cdf_edits.specs.Commands.Reindex.{AreTight, EntriesTight, nodes_at, nodes_below}
pub use Rattle.cdf_edits.specs.Commands.Reindex.{FullFromLeft, IsPyramid, MakesIndex, Spans, levels_up, made_acts, reindex_changes}
unfoldable pub use Rattle.cdf_edits.specs.Commands.Room.{nodes_above}
pub use Rattle.cdf_edits.specs.Commands.Room.{quotient_up, reindex_room}
pub use Rattle.cdf_edits.specs.Index.Written.{NodeSpareStays, UnusedEntries, is_taken_at, last_node, top_stays}
pub use Rattle.cdf_format.proofs.GoodImageLemmas.{good_image}
unfoldable pub use Rattle.cdf_index.proofs.Common.{HasNodes, Names, entry_leaves, leaves_of, lower_nodes, nodes_of, AreInOrder, InOrder, LowerAreZero, NextsAreZero}
pub use Rattle.cdf_index.proofs.Common.{Ascending, Each-in, HasIndex, IsOneOf, Keeps, NodeWritten, SameHeads, away-avoids, edit_more, entry_in, leaf_words, of_each, on_ok_weaker, own_rules, past_entries, rules, with_both}
pub use Rattle.cdf_index.proofs.GoodIndex.{good_index}
pub use Rattle.cdf_index.proofs.LeafMore.{leaves_both, parts_in_order}
pub use Rattle.cdf_index.proofs.LeafRules.{index_order, index_rules}
pub use Rattle.cdf_index.proofs.LeavesAscend.{leaves_ascend}
pub use Rattle.cdf_index.proofs.NewIndex.{Exchanged, IndexTests, NewIndex, block_kept, index_edit, index_keeps, index_marks, max_rec_kept, node_room, own_edit, vdr_no_node}
pub use Rattle.cdf_index.proofs.NodeFilled.{fills, has_room, node_short, node_sound}
pub use Rattle.cdf_index.proofs.OneNode.{entry_past, same_node}
pub use Rattle.cdf_index.proofs.OneVariable.{among_all, one_of}
pub use Rattle.cdf_index.proofs.OwnRecords.{by_range, descriptor_allowed, node_allowed, parts_times}
pub use Rattle.cdf_index.proofs.PlainBlocks.{Named, leaves_named}
pub use Rattle.cdf_index.proofs.Saying.{count_both, lower_both, names_parts, no_entries}
pub use Rattle.cdf_index.specs.Adding.{Counts}
pub use Rattle.cdf_index.specs.declared.entries.Entry.{Entry}
pub use Rattle.cdf_index.specs.Replacing.{with_index}
pub use Rattle.cdf_model.specs.VariableSteps.{reindex_step}
pub use Rattle.cdf_reindex.specs.Pyramid.{AreLevels, Filled, MakesPyramid, NewNode, alone, entries_for, entries_of, first_of, from_below, last_of, nodes_left, uppers, places_of}
pub use Rattle.cdf_reindex.specs.Rebuilding.{AllMade, LevelMade, LevelsMade, NodeMade, PyramidMade, naming, words, words_of}
pub use Rattle.cdf_reindex.specs.Reindexed.{AllTaken, IsBare, IsBuilt, IsRebuilt, Reindexed, heads_written}
pub use Rattle.cdf_reindex.specs.Reindexing.{IndexMade, index_of}
pub use Rattle.std.proofs.lemmas.List.Sums.{sum_by-cons}
pub use Rattle.std.specs.Slice.Iter.{chunks_rest, chunks_size}
pub use Rattle.std.proofs.lemmas.List.{take_all}
