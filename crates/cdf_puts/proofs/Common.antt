-- The names that most proofs of this crate cite, passed on from one place. Declares nothing.
pub use Rattle.cdf_area.proofs.Calls.{edit_without_memory}
unfoldable pub use Rattle.cdf_base.specs.Bytes.{put}
pub use Rattle.cdf_edits.proofs.Commands.KeptRecords.{Stood, keep_variables}
pub use Rattle.cdf_edits.proofs.Common.{Act, ActsFollow, AllKeep, Allowance, Allowances, AreActs, Away, Bool, Changed, Covered, DataSet, Each, Each-append, Each-split, Edit, Entries, Field, Found, Gave, Good, HasShape, Hold, Hold-split, In, In-append, In-append_left, In-append_right, IsBody, IsChain, IsSound, Keeps, Kind, Leaf, List, Mark, Marked, Misses, NoRule, NodeFits, Nodes, None, OneVariable, Only, Option, Outside, OutsideFields, R, Range, Same, Same-part, SaysEntry, Shape, Some, SpaceLeft, Stays, Took, Touch, Unused, Variable, VariableShape, Z, [], after_act, ap, append-nil, append_assoc, arith, asked, avoided, block, both, byte, bytes_eq, cases_eq, cases_lt, cast_signed, cdr_type, content, content_is, covers, cpr_link, cpr_rows, cuts_before_put, drop, drop-drop, drop-take, either, end_of, entry_count, eof, eq_of, eqb-true, extent, false, false-is_in, field, filled, filter, find, fixed_size, flat_map, fold, fold-append, gdr_eof, gdr_r_max_rec, gdr_type, gdr_uir_head, get_or-drop, get_or-take, good_by_its_shape, good_is_sound, greater, if◌then◌else◌, image_limit, index_rows, index_types, inl, inr, integer4, is_a-in, is_block, is_compressed, is_in, is_in-false, is_in-true, is_little, is_max_rec, is_record_type, is_sparse, is_taken, keeps_file, last_number, last_or, le-leb, le-ltb, leaf_rows, leaves_of, length, length-append, length-drop, length-map, length-put, length-take, linkable-in, linkable-type, list_any, lower, lt-ltb, ltb, map, map-append, max_rec_at, max_rec_touches, min, nat_le, nat_lt, nat_tests, ne_eqb, negsuc, no_entry, no_node, node, number, number_before, of_le, option_map, or_parts, owned, pad_record, piece_kept, plain_bytes, pos, put_changes, r_extents, r_max_rec, r_max_rec_field, range, range_at, record_bytes, record_number_limit, records_in, records_of_leaf, refl, room, room_at, same_Some, set_at, shape, shapes_of, shared, size_at, size_kept, slice_get, slice_set, space_before, space_fields, sparse_at, stays_all, stored_bytes, subst, suc, sym, take-take, take_at, taken, tile_lies, times, touch, touched_field, true, true-is_in, true≢false, turned, type_at, type_in, type_kept, type_of_body, type_of_variable, uir_next_uir, uir_prev_uir, uir_type, unused_allowance, unused_records, unwrap_or, used_count, variable_named, variable_of, variable_records, variable_types, variables, variables_chain, variables_of, vdr_max_rec, vdr_vxr_head, vdr_vxr_tail, vdrs, vvr_place, vvr_type, vxr_bytes, vxr_type, w32, with_record, with_sign, with_variable, with_variables, word, word_kept, zero, ℕ, ℤ, ◌&&◌, ◌*◌, ◌++◌, ◌+◌, ◌-◌, ◌<◌, ◌==◌, ◌||◌, ◌∙◌, ◌∷◌, ◌≡◌, ◌≢◌, ◌≤◌, ◌⊎◌}
pub use Rattle.cdf_edits.proofs.Edits.ActsJoined.{ListedStay, acts_joined, listed_before}
pub use Rattle.cdf_edits.proofs.Edits.Common.{acts_still_by, changed_edit, changed_put, each, edit_then, file_same, filter-says, gdr_field, gdr_long, head_size, head_type, index_typed, keep_attributes, keeps_away, keeps_stood, keeps_within, no_block, of_kind, only_variable, same-then, same_as_itself, some_bytes}
pub use Rattle.cdf_edits.proofs.Edits.IndexEdited.{IndexEdit, own_edit, vdr_alike, vdr_size}
pub use Rattle.cdf_edits.proofs.Edits.LeafPieces.{each_of, find_covering, find_first, leaf_at, one_place, place_in, record_place, times_le}
pub use Rattle.cdf_edits.proofs.Edits.OnlyTaken.{OnlyTakes, none_of_both}
pub use Rattle.cdf_edits.proofs.Edits.OwnEdited.{OwnEdit, among_now, content_replaced, only, others_are, records_are, splices}
pub use Rattle.cdf_edits.proofs.Edits.PlainLeaves.{PlainLeaf, leaves_ascend, plain_leaf}
pub use Rattle.cdf_edits.proofs.Edits.RecordFrame.{chain_stays}
pub use Rattle.cdf_edits.proofs.Edits.RecordPlaced.{NodeStands, placed_grows}
pub use Rattle.cdf_edits.proofs.Edits.RecordsWritten.{WritesRecords, behind_kept, block_kept, file, gdr_keeps, good_now, index_edit, no_acts_follow, node_kept, part, r_max_rec_of_z, same_shape, unused_stands}
pub use Rattle.cdf_edits.proofs.Edits.StandsAmong.{in_middle}
pub use Rattle.cdf_edits.proofs.Edits.VariableCopied.{block_behind, node_behind}
pub use Rattle.cdf_edits.proofs.Edits.VariableKinds.{variables_of_are}
pub use Rattle.cdf_edits.proofs.Frame.ChangedBytes.{Outside-append, changed_part}
pub use Rattle.cdf_edits.proofs.Frame.OwnersApart.{unused_in}
pub use Rattle.cdf_edits.proofs.Frame.VdrAlike.{record_alike, type_alike}
pub use Rattle.cdf_edits.proofs.Frame.VdrStays.{VdrStays, stays_alike, variable_stays}
pub use Rattle.cdf_edits.specs.Commands.Allowances.{anything_if}
pub use Rattle.cdf_edits.specs.Commands.GreatestRecord.{RMaxRecFollows, greatest_r_max_rec}
pub use Rattle.cdf_edits.specs.Commands.Puts.{CutsFirst, HoldsPads, PutsBytes, PutsIndex, PutsLeaves, StaysUnwritten, TakesNode, UnwrittenStay, is_changed, is_written, new_ranges, stays_in_place, stored_in, was_leaf, written_in}
pub use Rattle.cdf_edits.specs.Commands.PutSteps.{Puts}
pub use Rattle.cdf_edits.specs.Commands.Room.{blocks_room, is_rewritten, packed_room, put_room, quotient_up, room_of_variable, uncovered}
unfoldable pub use Rattle.cdf_edits.specs.Commands.Room.{entries_below, entries_in, widest, widest_below}
pub use Rattle.cdf_edits.specs.Index.Blocks.{block_count, covered, cut_open, first_written, firsts_before_put, new_range, ranges_after_put, ranges_before_put, ranges_of, record_length}
unfoldable pub use Rattle.cdf_edits.specs.Index.Blocks.{cover}
pub use Rattle.cdf_edits.specs.Index.Grown.{entries_outline, with_ranges}
unfoldable pub use Rattle.cdf_edits.specs.Index.Grown.{indexes_with, outline}
pub use Rattle.cdf_edits.specs.Index.Written.{BlockFollows, NodeSpareStays, NodesFollow, SpareIs, block_end, block_need, is_taken_at, top_stays}
unfoldable pub use Rattle.cdf_edits.specs.Index.Written.{uses_entry, uses_entry_below}
pub use Rattle.cdf_format.proofs.NameRules.{bytes_eq-same}
pub use Rattle.cdf_format.proofs.Tests.{same_of_bytes_eq}
pub use Rattle.cdf_index.proofs.ByLeaf.{Grows, by_leaf, node_stays, weight_grows}
unfoldable pub use Rattle.cdf_index.proofs.ByLeaf.{weigh, weigh_below}
pub use Rattle.cdf_index.proofs.Common.{Ascending, Avoids-append, Away-append, Each-in, Each-map, FileSame, HasIndex, IfOk-weaker, InOrder, IsOneOf, Kept, StandsAmong, Within-append, after_ours, all_unmarked-away, all_variable_records, apart, away-avoids, away-within, behind_in, cdr_kept, chain_reaches, count_is, covers_within, edit_more, edits_by_read, first_at, fits, gdr_in, gdr_typed, has, in_order, index_at, index_records, keep_all, keep_file, keep_kinds, keep_places, keep_variable_parts, keeps_fields, kept, kept_away, kind_ours, last_at, leads_down, leaf, leaf_of, least_first_past, leaves_apart, leb-false, long, new_room, next_first, of_each, offset_at, on_ok_weaker, or_from, other_kind, ours, own_rules, past, places_of, plain_piece, reaches, read_more, read_once, rules, signed, sound, stood, take, the_one, through, tile, times-append, typed, unmarked-away, upto, variables_in, with_both, with_new, with_range}
unfoldable pub use Rattle.cdf_index.proofs.Common.{HasNodes, Names, entry_firsts, firsts_of, lower_nodes, nodes_of, nodes_rows, used_rows, with_leaf, with_lower}
pub use Rattle.cdf_index.proofs.FromReached.{starts_at}
pub use Rattle.cdf_index.proofs.LeafMore.{leaves_more, ranges_new}
pub use Rattle.cdf_index.proofs.LeafRules.{before_limit, firsts_both, index_order, index_rules, least_below, order_with_leaf}
pub use Rattle.cdf_index.proofs.NewIndex.{Exchanged, IndexTests, NewIndex, index_marks, index_unmarked, max_rec_kept, node_room, vdr_of_variable}
pub use Rattle.cdf_index.specs.Adding.{NodeTouch, node_acts}
pub use Rattle.cdf_leaves.proofs.Common.{AddsLeaf, Counts, EntryIs, Frame, IndexTouch, LeafAdded, NodeTaken, UnusedEntries, edit_done, edit_failed, in_nodes_with_leaf, keeps_by_read, last_node, leaf_acts, nodes_with_leaf, same_node, top_chain, was_unused}
pub use Rattle.cdf_leaves.proofs.Own.{node_fits, own_node, own_order, searchable}
pub use Rattle.cdf_model.specs.declared.kinds.Sparse.{Sparse}
pub use Rattle.cdf_puts.specs.Covering.{Ahead, Counted, Covering, block_bytes, count_upto, new_last, node_bytes}
pub use Rattle.cdf_puts.specs.Going.{GoesOn, IsOther, LooseStay, found_in, put_fields}
pub use Rattle.cdf_puts.specs.Putting.{GoesOnTo, IsPut, PutsOn, PutsUpTo, Putting, SomePut, SomePutting, block_type, last_in_new, most_in_block, record_put, records_put}
pub use Rattle.cdf_puts.specs.SoFar.{Beside, BlockRecords, BlocksSoFar, IndexSoFar, LeavesGoOn, MaxRecDone, NewBlock, NodesSoFar, OldBlock, PutStart, PutsBefore, RecordIs, SoFar, TopGrows, TopStays, record_of, taken_bytes, taken_places, was_put}
pub use Rattle.cdf_puts.specs.Searching.{IsSearch, SearchesIn}
pub use Rattle.cdf_puts.specs.Starts.{ExpectsEntries, InTopChain, IsKnownOf, IsKnownStart, IsRightOf, IsWithin, KnowsStarts, LeavesEntries, known_of}
pub use Rattle.cdf_puts.specs.Steps.{BlocksGoOn, IsBlockBody, IsVacant, MaxRecRaised, RecordsWritten}
pub use Rattle.std.proofs.Common.{take-append-drop}
pub use Rattle.std.proofs.Math.Nat.{div-le_self}
pub use Rattle.std.proofs.Math.Path.{transport}
pub use Rattle.std.proofs.lemmas.Bool.{eq-eqb, or_left, or_right}
pub use Rattle.std.proofs.lemmas.List.{drop-append-le, drop_all, drop_at, take-append-le, take_all}
pub use Rattle.std.proofs.lemmas.List.Sums.{sum_by-cons}
pub use Rattle.std.specs.List.{repeat}
pub use Rattle.std.specs.Prelude.{max}
