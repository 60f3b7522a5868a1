-- The names that most proofs of this crate cite, passed on from one place. Declares nothing.
pub use Rattle.cdf_area.proofs.Calls.{edit_more, edits_by_read, read_more, read_once, read_without_memory}
pub use Rattle.cdf_area.specs.Calls.{Keeps, Stays}
pub use Rattle.cdf_edits.proofs.Common.{Act, AllKeep, Allowance, Allowances, Among, Anything, AreTiles, Avoids, Away, BlockFits, Changed, ChangedWithin, Distinct, Distinct-back, Distinct-front, Each, Each-append, Each-split, Field, FileStays, Fills, Found, Good, HasShape, HasVariable, Hold, Hold-append, Hold-member, Hold-split, In, In-append, In-append_left, In-append_right, IsChain, IsIndex, IsNode, IsSound, Kind, LeafFits, Leaves, LiesIn, Mark, NodeFits, OneVariable, Only, OutsideFields, OwnedOnce, Placed, R, Range, Row, Same, SayEntries, SaysEntry, SaysNode, Shape, Takes, Touch, VariableFits, VariableShape, Within, Z, adr_type, all_unmarked, attributes_in, avoided, block_in, cases_lt, cast_signed, cdr_type, content, count_of, counted, cpr_type, cvvr_type, either, end_of, eof, extent, filter, find, fixed_size, flat_map, fold, gdr_r_vdr_head, gdr_type, gdr_uir_head, gdr_z_vdr_head, good_by_its_shape, has_room, head_of, if◌then◌else◌, image_limit, index_rows, is_a, is_a-in, is_a-type, is_between, is_block, is_in, is_linkable, is_little, is_max_rec, is_record_type, is_taken, item_at, keeps_file, leaf_rows, length-append, length-le_from_distinct, length-map, length_tiles, linkable-in, linkable-type, map-append, mark, max_rec_at, min, nat_le, nat_lt, nat_tests, ne_eqb, next_of, nodes_stand, number, number_before, of_le, option_map, owned, owned_records, plain_bytes, plain_size, r_vdr_type, range_at, record_bytes, record_number_limit, records_in, shape, shape_is, shapes_of, signed_limit, size_at, slice_get, some_place, tile_lies, tiles, tiles_are, times, times-none, times-once, touch, turned, type_at, type_in, type_of_variable, uir_next_uir, uir_prev_uir, uir_type, unmarked, unused_records, variable_records, variable_types, variables, variables_chain, vdr_max_rec, vdr_type, vdr_vxr_head, vdr_vxr_tail, vdrs, vvr_type, vxr_type, w32, with_field, with_sign, with_space, within, word, word_kept, z_vdr_type, ◌==◌}
unfoldable pub use Rattle.cdf_edits.proofs.Common.{HasNodes, Names, entry_leaves, leaves_of, lower_nodes, nodes_of, nodes_rows, used_rows}
pub use Rattle.cdf_edits.proofs.Edits.Common.{Each-map, FileSame, IsRuled, Kept, all_variable_records, apart, attributes_kept, cdr_kept, fits, gdr_in, gdr_typed, got-middle, has, in-times, index_records, keep_all, keep_file, keep_kinds, keep_places, keep_unused, keep_variable_parts, keeps_all_attributes, keeps_fields, keeps_kind, kept, kept_away, kind_ours, kind_type, other_kind, spliced_times, stood, times-append, times-in, typed, variable_typed, variables_in, with_shapes}
pub use Rattle.cdf_edits.proofs.Edits.InRecords.{places_of}
pub use Rattle.cdf_edits.proofs.Edits.LeafPieces.{IsOneOf, covers_within, each_of, find_place, found_in, in_order, leaf_at, of_each, plain_piece}
pub use Rattle.cdf_edits.proofs.Edits.LeafRecords.{Ascending, count_is, record_is, record_past, signed}
pub use Rattle.cdf_edits.proofs.Edits.LeavesOrder.{ascending_both, ascending_from, before_is, before_number, between, index_ascends}
pub use Rattle.cdf_edits.proofs.Edits.MarkLemmas.{Avoids-append, Away-append, Within-append, all_unmarked-away, away-avoids, away-within, or_cases, the_one, unmarked-away}
pub use Rattle.cdf_edits.proofs.Edits.PlainLeaves.{leaves_apart, own_rules}
pub use Rattle.cdf_edits.proofs.Edits.StandsAmong.{StandsAmong, after_ours, behind_in, long, ours, sound, through, tile}
pub use Rattle.cdf_edits.proofs.Frame.LinksStay.{SameHeads, entry_same, linkable_kept, room_same, used_same}
pub use Rattle.cdf_edits.proofs.Frame.OwnerAlone.{Each-in, heads, stays}
pub use Rattle.cdf_edits.proofs.Index.NodeEdited.{Edit, Owed, redone}
unfoldable pub use Rattle.cdf_edits.proofs.Index.NodeEdited.{redo, redo_below}
pub use Rattle.cdf_edits.specs.Index.Blocks.{covers, next_first, range, with_range}
unfoldable pub use Rattle.cdf_edits.specs.Index.Blocks.{entry_firsts, firsts_of}
pub use Rattle.cdf_edits.specs.Index.Grown.{chain_reaches, leads_down, past, reaches, room_of_new, upto, with_block, with_both, with_entry}
unfoldable pub use Rattle.cdf_edits.specs.Index.Grown.{new_room, new_room_below, with_leaf, with_lower}
pub use Rattle.cdf_format.proofs.BytesLemmas.{next_kept, number_kept, size_kept, type_kept, word-same}
pub use Rattle.cdf_format.specs.GoodImage.{IsGoodImage}
pub use Rattle.cdf_format.specs.Index.{Entries, Leaf, Nodes, block, entry_count, first_at, last_at, leaf, link_to, lower, no_entry, no_node, node, offset_at, room_at, used_count}
pub use Rattle.cdf_format.specs.Records.{field, vxr_bytes, vxr_first, vxr_last, vxr_n_used_entries, vxr_offset, vxr_vxr_next}
pub use Rattle.cdf_edits.specs.Index.Written.{last_node, top_chain}
pub use Rattle.cdf_index.specs.Ahead.{Begun, NamesIn, chain_at, chain_before, first_past}
pub use Rattle.cdf_index.specs.Descent.{ChainWalked, IsAmong, Meets, SeesNode, StepSays, behind_of, first_after, step_pair}
pub use Rattle.cdf_index.specs.Finding.{Ascends, At, ChainFrom, HasIndex, IsBlock, IsCut, IsOrderly, NodeInside, Scanned, SomeNode, Stands, in_column, index_at}
pub use Rattle.cdf_index.specs.Growing.{Begins, MayName, with_new}
pub use Rattle.cdf_index.specs.Next.{least_first_past, number_within}
pub use Rattle.cdf_index.specs.Order.{leaf_of, past_entries}
unfoldable pub use Rattle.cdf_index.specs.Order.{AreInOrder, InOrder, LowerAreZero, NextsAreZero, find_entry, find_in, nodes_passed, passed_from}
pub use Rattle.cdf_index.specs.Reading.{HoldsRecords, record_in, record_of_leaf, stored_in}
pub use Rattle.cdf_index.specs.Sight.{IsHead, seen}
pub use Rattle.cdf_index.specs.Sizes.{Counts, size_of, used_met, widest_met}
pub use Rattle.cdf_index.specs.Starting.{IsStart, LeadsToStart, from_reached}
pub use Rattle.cdf_index.specs.Way.{down_at, placed, widen_all, widened, wider}
unfoldable pub use Rattle.cdf_index.specs.Way.{spot, spot_below, way, way_below}
pub use Rattle.cdf_index.specs.Whole.{Grew, Met, SomeChain, entry_met, leaf_words, met_block, met_node, place_met, places_in}
unfoldable pub use Rattle.cdf_index.specs.Whole.{met_below, met_in}
pub use Rattle.cdf_index.specs.Writing.{Chained, Cleared, EntriesRead, EntriesWritten, EntrySet, HasRoomFor, HeadWritten, Inserted, NodeWritten, SaysFirst, SaysUnused, Shortened, Split, StillSays, Widened, entry_in, unused_entry}
pub use Rattle.cdf_index.specs.declared.descending.Chain.{Chain}
pub use Rattle.cdf_index.specs.declared.descending.Stop.{Stop}
pub use Rattle.cdf_index.specs.declared.descending.Spot.{Spot}
pub use Rattle.cdf_index.specs.declared.descending.Step.{Step}
pub use Rattle.cdf_index.specs.declared.entries.Entry.{Entry}
pub use Rattle.cdf_index.specs.declared.measuring.IndexSize.{IndexSize}
pub use Rattle.std.proofs.Common.{Bool, List, None, Option, Some, [], add-one, ap, append-nil, append_assoc, ap₂, arith, drop, eq-eqb, eqb, false, inl, inr, leb, length, ltb, map, max, negsuc, pos, refl, rules, slice_index, subst, suc, sym, take, true, true≢false, zero, ℕ, ℤ, ◌*◌, ◌++◌, ◌+◌, ◌-◌, ◌/◌, ◌<◌, ◌^◌, ◌∙◌, ◌∷◌, ◌≡◌, ◌≢◌, ◌≤◌, ◌⊎◌}
pub use Rattle.std.proofs.lemmas.Bool.{cases_eq, eqb-true, le-leb, le-ltb, leb-false, leb-true, lt-leb, lt-ltb, or_from, or_parts}
pub use Rattle.std.proofs.lemmas.Int.{of_z-to_z}
pub use Rattle.std.proofs.lemmas.Result.{IfOk-weaker, on_ok_weaker}
pub use Rattle.cdf_format.proofs.IndexLemmas.{levels_complete}
pub use Rattle.cdf_edits.proofs.Edits.VariableFrame.{all_ruled, hold_all}
pub use Rattle.cdf_format.proofs.GoodImageLemmas.{by_shape}
