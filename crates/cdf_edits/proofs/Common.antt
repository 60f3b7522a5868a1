-- The names that most proofs of this crate cite, passed on from one place. Declares nothing.
pub use Rattle.byteorder.specs.Endian.{big_bytes, big_from}
pub use Rattle.byteorder.specs.Numbers.{big_from-take, big_number-reads_back, length-bytes_high_first}
pub use Rattle.cdf_base.specs.Bytes.{put}
pub use Rattle.cdf_edits.specs.Answers.{Answers, MovesIf, is_full}
pub use Rattle.cdf_edits.specs.Commands.Allowances.{AllKeep, Allowance, Allowances, Anything, FreedStay, FreedStays, GivenStay, Keeps, Only, OutsideFields, OwnAllowances, Stays, allowance, is_taken, no_fields, of_variable, only_of, own_allowance, r_max_rec_field, range_at, same_kind, shapes_of, space_fields, stays_all, stays_own, unused_allowance, vdr_type}
pub use Rattle.cdf_edits.specs.Commands.Does.{Does}
pub use Rattle.cdf_edits.specs.Commands.Entries.{ChainFollows, chain_after, entry_changes}
pub use Rattle.cdf_edits.specs.Commands.EntryChains.{GreatestIs, chain_fields, chain_of, entry_allowance, entry_at, entry_type, greatest_number, kind_of_entries, max_field, share_chain}
pub use Rattle.cdf_edits.specs.Commands.GreatestRecord.{r_extents, r_max_rec}
pub use Rattle.cdf_edits.specs.Commands.Keeps.{allowances}
pub use Rattle.cdf_edits.specs.Commands.Named.{OfAttribute, is_attribute}
pub use Rattle.cdf_edits.specs.Commands.NewRecords.{IsFilled, Says, with_bits}
pub use Rattle.cdf_edits.specs.Commands.Others.{AttributesStay, VariablesStay, is_on_attributes, is_on_variables}
pub use Rattle.cdf_edits.specs.Commands.Puts.{max_rec_touches, put_changes}
pub use Rattle.cdf_edits.specs.Commands.Room.{room, vdr_bytes}
pub use Rattle.cdf_edits.specs.Commands.Variables.{AttributeFollows, DeletesNamed, DeletesVariable, NumbersFall, RMaxRecOf, SetsPad, del_var_changes, emptied_fields, entries_allowance, entries_for, fields_beside, freed_with_variable, is_global_attribute, is_renumbered, no_index, rename_var_changes, set_blocking_changes, set_pad_changes, variables_gdr_fields}
pub use Rattle.cdf_edits.specs.Edits.DropsEntries.{AttributeDropped, AttributeKeeps, DropsEntries, IsDropped}
pub use Rattle.cdf_edits.specs.Edits.Edit.{Edit}
pub use Rattle.cdf_edits.specs.Edits.EntryMarks.{count_field, entries_chain, head_field, keeps_adr, keeps_but_chain, keeps_other, with_chain}
pub use Rattle.cdf_edits.specs.Edits.FallenNumbers.{fallen}
pub use Rattle.cdf_edits.specs.Edits.ManyMarks.{deleting_marks, freeing_marks, numbering_marks, unlinking_marks, wholes}
pub use Rattle.cdf_edits.specs.Edits.Marks.{Among, Anywhere, Avoids, Away, Confined, Covered, Covers, Lies, Mark, Marked, Where, Within, all_unmarked, append_marks, attribute_types, avoided, ended, field_marks, giving_marks, has_mark, index_types, is_late, keeps_attributes, keeps_file, keeps_index_records, keeps_variables, making_marks, mark, removing_marks, replacing_marks, taking_marks, unmarked, variable_types, whole, within}
pub use Rattle.cdf_edits.specs.Edits.RemovesVariable.{RemovesVariable, UnlinksVariable, empty_writes, greatest_at, numbers_on, r_max_marks, r_max_writes, variable_removing_marks, variable_unlinking_marks}
pub use Rattle.cdf_edits.specs.Edits.Unlinks.{Deletes, Unlinks}
pub use Rattle.cdf_edits.specs.Edits.Writes.{Write, numbers_from, with_writes, write}
pub use Rattle.cdf_edits.specs.Follows.{Follows, only_reads}
pub use Rattle.cdf_edits.specs.Frame.Changed.{Changed, Misses, Outside, Placed, Touch, TouchesNone, touch, touched_field}
pub use Rattle.cdf_edits.specs.Frame.Leaves.{AttributeStays, ChainsStay, ChangedWithin, FileStays, Leaves, LeavesFinding, LeavesLinks, VariableStays, after_links}
pub use Rattle.cdf_edits.specs.Frame.Links.{AllSpare, ChainHead, IsHead, IsLinkAfter, IsOther, chain_head, end_place, head_place, with_members}
pub use Rattle.cdf_edits.specs.Index.Blocks.{Range, covers, cuts_before_put, is_sparse, range, shared}
pub use Rattle.cdf_edits.specs.Index.Written.{AnyOf, stored_bytes}
pub use Rattle.cdf_edits.specs.Space.Acts.{Act, ActsFollow, AreActs, Gave, Happens, HasLeft, RestStays, SpaceLeft, Took, after_act, back_after, back_in, gave, lies_in_taken, links_end, loose_records, sized, space_before, taken, used_records}
pub use Rattle.cdf_edits.specs.Space.Adding.{Added, Exchanged, Joined, adding_marks}
pub use Rattle.cdf_edits.specs.Space.Chains.{Appended, HasChain, HolderStands, MayJoin, Removed, Replaced, before, count_of, counted_in, head_of, holder_of, holder_type, link_behind, members_of, type_in, with_in_place}
pub use Rattle.cdf_edits.specs.Space.Freeing.{AllGiven, AreFree}
pub use Rattle.cdf_edits.specs.Space.Giving.{FirstBytes, IsGiven, UnlistedBytes}
pub use Rattle.cdf_edits.specs.Space.Placement.{BackLinksFollow, Gives, Takes, back_links, eof_after, first_back_link, fits, given_to, giving, place_for, split_width, stands_behind, taken_from, taking, unused, with_space}
pub use Rattle.cdf_edits.specs.Space.Placing.{Fills, IsBody, laid_out, type_of_body}
pub use Rattle.cdf_edits.specs.Space.Taking.{EndBytes, FirstBack, IsTaken, NoneFit, RestBytes, TakenBytes, last_of, link_field, link_tile, prev_of, touched_by}
pub use Rattle.cdf_edits.specs.Space.TakingOut.{Lists, TakenOut}
pub use Rattle.cdf_edits.specs.Space.VariableChains.{variables_chain}
pub use Rattle.cdf_edits.specs.declared.chain.Chain.{Chain}
pub use Rattle.cdf_edits.specs.declared.chain.Chain.TheVariants.{Attrs, GrEntries, RVars, ZEntries, ZVars}
pub use Rattle.cdf_fields.proofs.Writes.{drop-put_there, field_reads, field_reads4, length-with_field, other_bytes, other_words, word-put_outside}
pub use Rattle.cdf_format.proofs.BytesLemmas.{Same-part, byte-put_after, byte-put_before, bytes_kept, integer_kept, length-put, name_kept, next_kept, number_kept, piece_kept, size_kept, type_kept, word_kept, words_kept}
pub use Rattle.cdf_format.proofs.ChainsLemmas.{chain_complete, is_a-from, is_a-in, is_a-type, leads_unique, linkable-from, linkable-in, linkable-long, linkable-type, some_place}
pub use Rattle.cdf_format.proofs.GoodByShape.{IsGoodByShape, attribute_shape_rows, indexes_shape_rows, variables_shape_rows}
pub use Rattle.cdf_format.proofs.GoodImageLemmas.{vdrs_append}
pub use Rattle.cdf_format.proofs.GoodSound.{good_by_its_shape, good_is_sound, rules_of_good}
pub use Rattle.cdf_format.proofs.ImageOf.{flags_of_front, short_trailer, trailer_is}
pub use Rattle.cdf_format.proofs.IndexLemmas.{nodes_stand}
pub use Rattle.cdf_format.proofs.Members.{Distinct-back, Distinct-front, Distinct-middle, Distinct-push, In-append, In-append_left, In-append_right, either, false-is_in, is_in-false, is_in-true, length-le_from_distinct, true-is_in}
pub use Rattle.cdf_format.proofs.NameRules.{AreNew, absent-append, absent-split, differ-turned, differ_by_names, names_at, names_differ, stands_in}
pub use Rattle.cdf_format.proofs.Owning.{attributes_in, block_in, filter-in, owned_is, owned_stand, tiles_distinct, times-none, times-once}
pub use Rattle.cdf_format.proofs.RowLemmas.{Hold-append, Hold-asked, Hold-member, Hold-members, Hold-split, flat_map-append}
pub use Rattle.cdf_format.proofs.SealedRules.{good_long, sealed_keeps, sealed_kept}
pub use Rattle.cdf_format.proofs.ShapeLemmas.{Each-append, Each-split, content_is, shape_is, tiles_are}
pub use Rattle.cdf_format.proofs.Tests.{both, eq_of, le_of, not_false, of_le}
pub use Rattle.cdf_format.proofs.TilesLemmas.{length_tiles, tile_lies, tiles_lie_apart, tiles_unique, tiling_complete}
pub use Rattle.cdf_format.specs.AttributeRules.{adr_rows, entries_rows, entry_bytes, entry_rows, has_name, has_value, same_name, same_number}
pub use Rattle.cdf_format.specs.Bytes.{Same, byte}
pub use Rattle.cdf_format.specs.ChainRules.{adrs_rows, differ_rows, number_rows, r_vdrs_rows, z_vdrs_rows}
pub use Rattle.cdf_format.specs.Chains.{IsChain, Leads, chain, is_a, is_in, is_linkable, linked_types, next_field, next_of}
pub use Rattle.cdf_format.specs.Content.{attribute_of, content, content_of, entry_of, leaf_records, majority_of, plain_bytes, records_in, scope_of, variable_of}
pub use Rattle.cdf_format.specs.Fields.{Holds, LiesIn, counted, encoding, eof, flags, gdr_offset, has_bit, integer4, is_positive, name_in, number, r_num_dims, r_sizes, size_at, type_at, version, with_sign, word, words}
unfoldable pub use Rattle.cdf_format.specs.Fields.{with_field, with_name}
pub use Rattle.cdf_format.specs.FileRules.{gdr_rows, has_gdr, is_record}
pub use Rattle.cdf_format.specs.Index.{Entries, Leaf, Nodes, block, entry_count, link_to, lower, no_entry, no_node, node, room_at, used_count}
unfoldable pub use Rattle.cdf_format.specs.Index.{entry_leaves, leaves_of, lower_nodes, nodes_of}
pub use Rattle.cdf_format.specs.IndexOf.{IsIndex, IsNode, SayEntries, SaysEntry, SaysNode}
unfoldable pub use Rattle.cdf_format.specs.IndexOf.{HasNodes, Names}
pub use Rattle.cdf_format.specs.IndexRules.{cvvr_rows, end_of, has_room, holds_packed, index_rows, is_between, is_block, leaf_rows, unpacks_to, vvr_rows}
unfoldable pub use Rattle.cdf_format.specs.IndexRules.{nodes_rows, used_rows}
pub use Rattle.cdf_format.specs.Owners.{File, OneAttribute, OneVariable, OwnedOnce, Owner, Unused, attribute_records, owned, owned_by, owned_by_attributes, owned_by_variables, owned_records, times, unused_records, variable_records}
pub use Rattle.cdf_format.specs.Phases.{first_phases}
pub use Rattle.cdf_format.specs.RecordTypes.{adr_type, agr_edr_type, az_edr_type, cdr_type, cpr_type, cvvr_type, fixed_size, gdr_type, is_record_type, r_vdr_type, uir_type, vvr_type, vxr_type, z_vdr_type}
pub use Rattle.cdf_format.specs.Records.{Field, adr_agr_edr_head, adr_az_edr_head, adr_max_gr_entry, adr_max_z_entry, adr_name, adr_ngr_entries, adr_num, adr_nz_entries, adr_scope, aedr_attr_num, aedr_data_type, aedr_num, aedr_num_elems, aedr_value, cdr_encoding, cdr_flags, cdr_gdr_offset, cdr_increment, cdr_release, cdr_version, cpr_c_type, cpr_p_count, cpr_parameter, cvvr_c_size, cvvr_packed, field, gdr_adr_head, gdr_eof, gdr_nr_vars, gdr_num_attr, gdr_nz_vars, gdr_r_dim_sizes, gdr_r_max_rec, gdr_r_num_dims, gdr_r_vdr_head, gdr_uir_head, gdr_z_vdr_head, record_size, record_type, uir_next_uir, uir_prev_uir, vdr_blocking_factor, vdr_cpr_or_spr_offset, vdr_data_type, vdr_flags, vdr_max_rec, vdr_name, vdr_num, vdr_num_elems, vdr_r_dim_vary, vdr_r_pad_value, vdr_s_records, vdr_vxr_head, vdr_vxr_tail, vdr_z_dim_size, vdr_z_dim_vary, vdr_z_num_dims, vdr_z_pad_value, vvr_place, vvr_records, vxr_bytes, vxr_first, vxr_last, vxr_n_entries, vxr_n_used_entries, vxr_offset}
pub use Rattle.cdf_format.specs.Rules.{AllHold, Hold, Row, asked, row}
pub use Rattle.cdf_format.specs.Sealed.{has_checksum, sealed, trailer, trailer_length}
pub use Rattle.cdf_format.specs.Shape.{AttributeShape, Each, HasEntries, HasShape, HasVariable, Shape, VariableShape, adrs, cpr_of, is_compressed, shape, variables, vdrs, with_records}
pub use Rattle.cdf_format.specs.Sound.{AttributeFits, BlockFits, EntryFits, IsSound, LeafFits, NodeFits, VariableFits}
pub use Rattle.cdf_format.specs.Stored.{data_type_in, field_bytes, is_little, known_type, network_bytes, packed_bytes}
pub use Rattle.cdf_format.specs.Tiles.{AreTiles, Distinct, In, tiles}
pub use Rattle.cdf_format.specs.VariableFields.{counted4, dimensions_at, dims_at, elems_at, has_pad, is_z, max_rec_at, number_before, pad_at, pad_field, plain_size, record_bytes, records_of_leaf, records_vary, sparse_at, type_of_variable, value_bytes, vary_field, varys_at}
pub use Rattle.cdf_format.specs.VariableRules.{cpr_link, cpr_rows, has_dimensions, has_elements, is_cpr, is_known_packing, is_max_rec, is_named_apart, is_no_link, variable_rows, vdr_end}
pub use Rattle.cdf_format.specs.WellFormed.{Good}
pub use Rattle.cdf_model.specs.Answers.{Answer, Go, Refuse, given, is_accepted, outcome, unless, valued}
pub use Rattle.cdf_model.specs.AttributeSteps.{del_attr_step, entries_of, entry_by, is_global, is_out_of_range, is_wrong_scope, new_attribute, with_attribute, with_entries}
pub use Rattle.cdf_model.specs.ByteOrder.{parts, turned}
pub use Rattle.cdf_model.specs.DataSet.{Attribute, DataSet, Entry, Variable, extent}
pub use Rattle.cdf_model.specs.Encodings.{encoding_at}
pub use Rattle.cdf_model.specs.Limits.{dimension_limit, image_limit, record_number_limit, signed_limit}
pub use Rattle.cdf_model.specs.Names.{Found, attribute_named, attribute_names, is_among, is_bad_name, name_limit, variable_named, variable_names, variables_of, with_variables}
pub use Rattle.cdf_model.specs.Numbered.{closed_up, item_at, with_item, with_items, without}
pub use Rattle.cdf_model.specs.Place.{record_limit, value_count}
pub use Rattle.cdf_model.specs.Reading.{pad_record, read}
pub use Rattle.cdf_model.specs.RecordSteps.{cannot_be_put, filled, greater, last_number, place_in_record, put_rec_step, put_record, put_val_step, with_record, with_value, without_records}
pub use Rattle.cdf_model.specs.Step.{ByStep, Route, step}
pub use Rattle.cdf_model.specs.Types.{code_of, size_of, type_of}
pub use Rattle.cdf_model.specs.Values.{notation_of, values_in}
pub use Rattle.cdf_model.specs.VariableSteps.{are_bad_sizes, attribute_without, del_var_step, entries_without, has_records, is_bad_shape, is_characters, is_empty_set, new_variable, set_pad_step, setup_step, var_step, with_variable, without_variable}
pub use Rattle.cdf_model.specs.declared.answer.Outcome.TheVariants.{Done, Refused}
pub use Rattle.cdf_model.specs.declared.answer.Reason.{Reason}
pub use Rattle.cdf_model.specs.declared.answer.Reply.{Reply}
pub use Rattle.cdf_model.specs.declared.answer.Reply.TheVariants.{Plain}
pub use Rattle.cdf_model.specs.declared.command.Command.{Command}
pub use Rattle.cdf_model.specs.declared.data_type.DataType.{DataType}
pub use Rattle.cdf_model.specs.declared.data_type.DataType.TheVariants.{Byte, Char, Double, Epoch, Epoch16, Float, Int1, Int2, Int4, Int8, Real4, Real8, TimeTt2000, UChar, UInt1, UInt2, UInt4}
pub use Rattle.cdf_model.specs.declared.head.Majority.{Majority}
pub use Rattle.cdf_model.specs.declared.kinds.EntryKind.{EntryKind}
pub use Rattle.cdf_model.specs.declared.kinds.Kind.{Kind}
pub use Rattle.cdf_model.specs.declared.kinds.Kind.TheVariants.{R, Z}
pub use Rattle.cdf_model.specs.declared.kinds.Sparse.TheVariants.{NoRule, Pad, Previous}
pub use Rattle.std.proofs.Common.{Bool, Err, List, None, Ok, Option, Result, Some, [], ap, append-nil, append_assoc, ap₂, arith, bytes_eq, cond, drop, eq-eqb, eqb, false, get_or, inl, inr, le_refl, leb, length, lit<, ltb, map, max, negsuc, pos, refl, replicate, subst, suc, sym, true, true≢false, zero, ℕ, ℤ, ◌%◌, ◌*◌, ◌++◌, ◌+◌, ◌-◌, ◌/◌, ◌<◌, ◌^◌, ◌∙◌, ◌∷◌, ◌≡◌, ◌≢◌, ◌≤◌, ◌⊎◌}
pub use Rattle.std.proofs.Math.IntN.{ -ℤ_one}
pub use Rattle.std.proofs.Math.Seq.{drop-append_seam, take-length, take-suc}
pub use Rattle.std.proofs.lemmas.Bool.{and_from, and_parts, cases_Bool, cases_eq, cases_lt, eqb-false, eqb-true, le-leb, le-ltb, leb-true, lt-leb, lt-ltb, ltb-false, ltb-true, ne_eqb, or_cases, or_parts}
pub use Rattle.std.proofs.lemmas.Bool.Decides.{nat_tests}
pub use Rattle.std.proofs.lemmas.List.{drop-drop, drop-take, ext_get_or, get_or-drop, get_or-take, get_or_append_left, length-append, length-drop, length-map, length-replicate, length-take, map-append, nil_from_length, set_at, take-append-drop, take-take, take_at}
pub use Rattle.std.proofs.lemmas.List.Sums.{fold-append}
pub use Rattle.std.proofs.lemmas.Option.{get_or_from_slice_get, same_Some, slice_get_within}
pub use Rattle.std.specs.Int.{cast_signed, cast_unsigned, w32, w64}
pub use Rattle.std.specs.List.{All, before_first, enumerate_from, filter, flat_map, fold, last_or, list_all, list_any, remove, slice_get, sum}
pub use Rattle.std.specs.Option.{is_none, option_map, unwrap_or}
pub use Rattle.std.specs.Prelude.{FitsSigned, find, if◌then◌else◌, int_le, int_lt, is_some, min, nat_le, nat_lt, not, slice_set, take, ◌&&◌, ◌-ℤ◌, ◌==◌, ◌||◌}
