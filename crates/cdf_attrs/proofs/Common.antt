-- The names that most proofs of this crate cite, passed on from one place. Declares nothing.
pub use Rattle.cdf_area.proofs.Calls.{edit_done, edit_failed, edit_more, edit_once, edit_without_memory, edits_by_write, read_done, read_more, read_once, read_without_memory}
pub use Rattle.cdf_area.specs.Calls.{Stays}
pub use Rattle.cdf_attrs.specs.Creating.{adr_fields, scope_code}
unfoldable pub use Rattle.cdf_attrs.specs.Creating.{adr_body}
pub use Rattle.cdf_attrs.specs.Dropping.{DropsFrom, DropsNumber, IsScoped, KeepsAttributes, Lowers, LowersNumbers, lower_writes}
pub use Rattle.cdf_attrs.specs.Finding.{Finds, FindsChain, HasWrongScope, IsOfAttribute, IsRefusedFor}
pub use Rattle.cdf_attrs.specs.Getting.{entry_reply}
pub use Rattle.cdf_attrs.specs.Known.{Known, KnownEntries, Knows, KnowsEntries}
pub use Rattle.cdf_attrs.specs.Numbering.{AllLie, entry_numbers, write_of}
pub use Rattle.cdf_attrs.specs.PutValues.{Asks, HasOld, IsAttributeAt, IsPut, IsReady, Puts, new_entry, stored_entry}
pub use Rattle.cdf_attrs.specs.Putting.{Fit, IsEntryOf, IsStored, RemovedAs, aedr_fields, new_reserved}
unfoldable pub use Rattle.cdf_attrs.specs.Putting.{aedr_body}
pub use Rattle.cdf_attrs.specs.Removing.{IsGreatest, TakenAt, without_at}
pub use Rattle.cdf_attrs.specs.Renaming.{Renamed}
pub use Rattle.cdf_attrs.specs.Valued.{IsWritten, entry_of_words, is_text}
pub use Rattle.cdf_attrs.specs.declared.numbering.Numbered.{Numbered}
pub use Rattle.cdf_attrs.specs.declared.putting.NewEntry.{NewEntry}
pub use Rattle.cdf_edits.proofs.Commands.Answered.{gone, refused, too_large}
pub use Rattle.cdf_edits.proofs.Commands.FineNames.{fine_has_no_zeros, fine_is_short, fine_is_some}
pub use Rattle.cdf_edits.proofs.Commands.KeptRecords.{AllKeep-append, Stood, keep_attributes, keep_owned}
pub use Rattle.cdf_edits.proofs.Commands.ListParts.{Cut, cut, got-map, got-middle, last_got, last_removed}
pub use Rattle.cdf_edits.proofs.Edits.AttributeChains.{Stands, stands_at}
pub use Rattle.cdf_edits.proofs.Edits.AttributeFrame.{AreThere, all_remain, entry, lives_clear, more_there, nums_stay, remaining_names}
pub use Rattle.cdf_edits.proofs.Edits.ChainEntries.{EntryLives, entries_left, entries_live, entries_pushed, entries_replaced, num_in, nums, nums_differ, nums_live, nums_pushed, nums_replaced}
pub use Rattle.cdf_edits.proofs.Edits.ChainFollowed.{chain_now, found_none, found_one, greatest_integer, left_after, replaced_after}
pub use Rattle.cdf_edits.proofs.Edits.ChainKinds.{adr_of, chain_in}
pub use Rattle.cdf_edits.proofs.Edits.ChainSpliced.{Rechains, content_rechained, entry_stays, file_now, made, now_is, num_same, splices}
pub use Rattle.cdf_edits.proofs.Edits.ChainsOfShape.{IsOf, has_chain, is_member, members_are}
pub use Rattle.cdf_edits.proofs.Edits.DeletedAttribute.{attributes_listed, delete_done, delete_refused, lie_after, names_after, numbers_more, own, places_after, unlinked_by}
pub use Rattle.cdf_edits.proofs.Edits.DroppedEntries.{DropsUpTo, drops, drops_both, finish, lowers, next_dropped, next_global, numbered, start, still_scoped, takes, untouched}
pub use Rattle.cdf_edits.proofs.Edits.EntriesEdited.{Change, EditsEntries, Rests, attributes_agree, attributes_of, edits_rest, only_at}
pub use Rattle.cdf_edits.proofs.Edits.EntryFields.{as_count, count_is, max_lies, max_written, of_shape}
pub use Rattle.cdf_edits.proofs.Edits.FallenEntries.{LowersChain, entries_closed, entries_now, fallen_under, greatest_lowered, later, lowered, numbers_fell, nums_now, rests}
pub use Rattle.cdf_edits.proofs.Edits.FreedEntry.{Frees, all_marks, as_long_now, count_same, freed_bytes, freed_rechains, freed_settled, greatest_same, old_free, old_stands, other_kept, sound_late}
pub use Rattle.cdf_edits.proofs.Edits.JoinedRecord.{IsJoined, acts_then, edit, ends, fills, list, longest, marks, new_in, new_once, new_part, new_size, new_type, new_typed, records, unused_chain, unused_kept}
pub use Rattle.cdf_edits.proofs.Edits.LeftEntry.{LeavesChain, count_now, left_frees, left_greatest, left_members, of_count}
pub use Rattle.cdf_edits.proofs.Edits.MadeRecord.{filled_edit, filled_size, filled_sound}
pub use Rattle.cdf_edits.proofs.Edits.MarkLemmas.{all_unmarked-away, the_one}
pub use Rattle.cdf_edits.proofs.Edits.OneChain.{Chained, Settled, chain_follows, counted_before, differ_before, follows_chained, items_of, of_named, once_before, rules_live}
pub use Rattle.cdf_edits.proofs.Edits.OwnedOnce.{IsSorted, adr_no_entry, all_attributes_in, only_owns, owned_once_if, spliced_times, used_times}
pub use Rattle.cdf_edits.proofs.Edits.OwnersKept.{all_keep, keep_attributes_alone, keep_parts, keep_places, keeps_away, keeps_fields, stood}
pub use Rattle.cdf_edits.proofs.Edits.RecordFrame.{AttributeLives, chain_clear, chain_kept, file_same, gdr_field, gdr_place, kept_away, part_clear}
pub use Rattle.cdf_edits.proofs.Edits.Splice.{OwnRules, Splices, adr_stands, content_now, file, good_image_if, parts_there, shape_now, spliced, variables_kept}
pub use Rattle.cdf_edits.proofs.Edits.StepEdits.{field_edit, fixed_long}
pub use Rattle.cdf_edits.proofs.Edits.TakenEntry.{count_left, differ_left, f, items_left, members_stay, once, others, r, rules_left, settled}
pub use Rattle.cdf_edits.proofs.Edits.VariableFrame.{variables_in}
pub use Rattle.cdf_edits.proofs.Frame.OwnersApart.{adrs_linked, all_variable_records, file_in, flat-append, unused_in}
pub use Rattle.cdf_edits.proofs.Rules.WithoutLinks.{eof_by_rules, number_rows-push, number_rows_kept}
pub use Rattle.cdf_edits.proofs.Space.ChainHeads.{cdr_room, end_of, long_of}
pub use Rattle.cdf_edits.proofs.Space.LaidOut.{IsType, laid_kept, placed_laid, typed_body, value_laid}
pub use Rattle.cdf_edits.proofs.Space.UsedRecords.{apart}
pub use Rattle.cdf_edits.specs.Answers.{Answers}
pub use Rattle.cdf_edits.specs.Commands.Allowances.{AllKeep, Allowances, FreedStay, Keeps, Only, no_fields, only_of}
pub use Rattle.cdf_edits.specs.Commands.Attributes.{MakesAttribute, attr_changes, attributes_gdr_fields, new_adr, rename_attr_changes}
pub use Rattle.cdf_edits.specs.Commands.Entries.{DeletesEntry, EntryFollows, PutsEntry, chain_after, entry_end}
pub use Rattle.cdf_edits.specs.Commands.EntryChains.{GreatestIs, chain_of, entry_at, entry_type, greatest_number, kind_of_entries, max_field}
pub use Rattle.cdf_edits.specs.Commands.NewRecords.{IsFilled, MovesForRoom, Says, moved_for_room}
pub use Rattle.cdf_edits.specs.Commands.Room.{entry_length, room}
pub use Rattle.cdf_edits.specs.Commands.Variables.{entries_for, is_renumbered}
pub use Rattle.cdf_edits.specs.Edits.DropsEntries.{DropsEntries, IsDropped}
pub use Rattle.cdf_edits.specs.Edits.Edit.{Edit}
pub use Rattle.cdf_edits.specs.Edits.EntryMarks.{count_field, entries_chain, with_chain}
pub use Rattle.cdf_edits.specs.Edits.FallenNumbers.{fallen}
pub use Rattle.cdf_edits.specs.Edits.Marks.{Away, Mark, field_marks, making_marks}
pub use Rattle.cdf_edits.specs.Edits.Writes.{Write, numbers_from, with_writes, write}
pub use Rattle.cdf_edits.specs.Follows.{Follows}
pub use Rattle.cdf_edits.specs.Space.Acts.{Act, ActsFollow, Gave, Took, gave}
pub use Rattle.cdf_edits.specs.Space.Adding.{Added, Exchanged, Joined, adding_marks}
pub use Rattle.cdf_edits.specs.Space.Chains.{HasChain, HolderStands, Removed, before, counted_in, members_of, type_in, with_in_place}
pub use Rattle.cdf_edits.specs.Space.Placement.{Gives}
pub use Rattle.cdf_edits.specs.Space.Placing.{IsBody, Placed, laid_out, type_of_body}
pub use Rattle.cdf_edits.specs.declared.chain.Chain.{Chain}
pub use Rattle.cdf_edits.specs.declared.chain.Chain.TheVariants.{Attrs, GrEntries, ZEntries}
pub use Rattle.cdf_fields.proofs.NamesWritten.{before_zeros, name_reads}
pub use Rattle.cdf_fields.proofs.Writes.{drop-put_there, length-with_field}
pub use Rattle.cdf_format.proofs.BytesLemmas.{Same-part, size_kept, word_kept}
pub use Rattle.cdf_format.proofs.ChainsLemmas.{linkable-in, linkable-is_a, linkable-type}
pub use Rattle.cdf_format.proofs.GoodByShape.{IsGoodByShape, attribute_shape_rows}
pub use Rattle.cdf_format.proofs.GoodSound.{good_by_its_shape, good_eof, good_is_sound, rules_of_good}
pub use Rattle.cdf_format.proofs.Members.{In-append, In-append_left, In-append_right, either, is_in-true, length-le_from_distinct}
pub use Rattle.cdf_format.proofs.NameRules.{AreNew, absent-split, attribute_names_are, differ-turned, differ_by_names, names_at, names_differ, new_pushed, new_replaced, stands_in}
pub use Rattle.cdf_format.proofs.RowLemmas.{Hold-append, Hold-member, Hold-split, flat_map-append}
pub use Rattle.cdf_format.proofs.SealedRules.{good_long, sealed_kept}
pub use Rattle.cdf_format.proofs.ShapeLemmas.{adr_chain_is, content_is, shape_is, tiles_are}
pub use Rattle.cdf_format.proofs.Tests.{both, eq_of, le_of, of_le}
pub use Rattle.cdf_format.proofs.TilesLemmas.{length_tiles, tile_lies}
pub use Rattle.cdf_format.specs.AttributeRules.{adr_rows, entries_rows, entry_bytes, entry_rows, has_value, same_name, same_number}
pub use Rattle.cdf_format.specs.Bytes.{Same}
pub use Rattle.cdf_format.specs.ChainRules.{adrs_rows, count_rows, differ_rows, number_rows, r_vdrs_rows, z_vdrs_rows}
pub use Rattle.cdf_format.specs.Chains.{IsChain, chain, is_a, is_in, next_field}
pub use Rattle.cdf_format.specs.Content.{attribute_of, content, content_of, entry_of, scope_of, variable_of}
pub use Rattle.cdf_format.specs.Fields.{LiesIn, gdr_offset, holds, integer4, is_positive, name_at, name_field, name_in, number, size_at, type_at, with_field, with_name, word}
pub use Rattle.cdf_format.specs.Owners.{File, OneAttribute, Unused, attribute_records, owned, owned_by, owned_by_attributes, times, unused_records}
pub use Rattle.cdf_format.specs.RecordTypes.{adr_type, agr_edr_type, az_edr_type, fixed_size, uir_type}
pub use Rattle.cdf_format.specs.Records.{Field, adr_adr_next, adr_agr_edr_head, adr_az_edr_head, adr_name, adr_ngr_entries, adr_num, adr_nz_entries, adr_scope, aedr_aedr_next, aedr_data_type, aedr_num, aedr_num_elems, aedr_rfu_b, aedr_rfu_c, aedr_rfu_d, aedr_rfu_e, aedr_value, gdr_adr_head, gdr_eof, gdr_num_attr, gdr_uir_head, record_type}
pub use Rattle.cdf_format.specs.Rules.{Hold}
pub use Rattle.cdf_format.specs.Shape.{AttributeShape, Each, HasEntries, HasShape, Shape, VariableShape, adrs, shape, vdrs}
pub use Rattle.cdf_format.specs.Sound.{AttributeFits, EntryFits, IsSound}
pub use Rattle.cdf_format.specs.Stored.{data_type_in, field_bytes, is_little, known_type}
pub use Rattle.cdf_format.specs.Tiles.{Distinct, In, tiles}
pub use Rattle.cdf_format.specs.WellFormed.{Good}
pub use Rattle.cdf_model.specs.Answers.{Answer, Go, Refuse, given, unless}
pub use Rattle.cdf_model.specs.AttributeSteps.{del_entry_step, entries_of, get_entry_step, is_global, is_out_of_range, is_wrong_scope, new_attribute, number_entry, on_entry, put_entry_step, rename_attr_step, with_attribute, with_entries}
pub use Rattle.cdf_model.specs.ByteOrder.{turned}
pub use Rattle.cdf_model.specs.DataSet.{Attribute, DataSet, Entry}
pub use Rattle.cdf_model.specs.Limits.{image_limit, record_number_limit, signed_limit}
pub use Rattle.cdf_model.specs.Listing.{attribute_items}
pub use Rattle.cdf_model.specs.Names.{Found, attribute_named, attribute_names, is_among, is_bad_name}
pub use Rattle.cdf_model.specs.Numbered.{closed_up, item_at, with_item, without}
pub use Rattle.cdf_model.specs.Place.{record_limit}
pub use Rattle.cdf_model.specs.Step.{ByStep, step}
pub use Rattle.cdf_model.specs.Types.{size_of}
pub use Rattle.cdf_model.specs.Values.{bytes_of_words, values_in}
pub use Rattle.cdf_model.specs.declared.answer.Outcome.TheVariants.{Done, Refused}
pub use Rattle.cdf_model.specs.declared.answer.Reason.{Reason}
pub use Rattle.cdf_model.specs.declared.answer.Reason.TheVariants.{BadName, NameTaken, NoSuchAttr, NoSuchEntry, TooLarge, WrongScope}
pub use Rattle.cdf_model.specs.declared.answer.Reply.{Reply}
pub use Rattle.cdf_model.specs.declared.answer.Reply.TheVariants.{Plain}
pub use Rattle.cdf_model.specs.declared.command.Command.{Command}
pub use Rattle.cdf_model.specs.declared.command.Command.TheVariants.{Attr, DelEntry, GetEntry, PutEntry}
pub use Rattle.cdf_model.specs.declared.data_type.DataType.{DataType}
pub use Rattle.cdf_model.specs.declared.kinds.EntryKind.{EntryKind}
pub use Rattle.cdf_model.specs.declared.kinds.EntryKind.TheVariants.{G, R, Z}
pub use Rattle.cdf_model.specs.declared.kinds.Kind.{Kind}
pub use Rattle.cdf_model.specs.declared.kinds.Scope.{Scope}
pub use Rattle.cdf_names.specs.Names.{has_name, last_to, number_of}
pub use Rattle.cdf_records.proofs.Places.{word4_fits}
pub use Rattle.cdf_records.specs.Pieces.{AreBytes}
pub use Rattle.cdf_values.proofs.TurnedLemmas.{back, in_place, size_stays}
pub use Rattle.cdf_values.proofs.ValueLengths.{Sizes, fewer, whole_elements, whole_text, words_sized}
pub use Rattle.std.proofs.Common.{All, Bool, Contains, Err, FitsSigned, List, None, Ok, Option, Result, Some, [], add-one, ap, append-nil, append_assoc, ap₂, arith, bytes_eq, cond, drop, eq-eqb, eqb, false, get_or, inl, inr, is_some, length, lit<, map, max, pos, refl, replicate, rules, subst, suc, sym, take, true, zero, ℕ, ℤ, ◌%◌, ◌*◌, ◌++◌, ◌+◌, ◌-◌, ◌<◌, ◌^◌, ◌||◌, ◌∙◌, ◌∷◌, ◌≡◌, ◌≢◌, ◌≤◌, ◌⊎◌}
pub use Rattle.std.proofs.Math.Seq.{get_or-append_seam, take-suc}
pub use Rattle.std.proofs.lemmas.Bool.{and_from, cases_lt, eqb-true, le-leb, le-ltb, lt-leb, lt-ltb, ne_eqb}
pub use Rattle.std.proofs.lemmas.Bool.Decides.{nat_tests}
pub use Rattle.std.proofs.lemmas.Int.{ints, of_z-to_z, to_z-of_z, to_z_pos}
pub use Rattle.std.proofs.lemmas.List.{at_drop_all, at_drop_more, drop_more, get_or-map, length-append, length-drop, length-map, length-replicate, length-take-le, map-append, map-set}
pub use Rattle.std.proofs.lemmas.List.Elements.{All-head, All-map, All-tail}
pub use Rattle.std.proofs.lemmas.List.Quantifiers.{position-Some}
pub use Rattle.std.proofs.lemmas.Option.{same_Some, slice_get_within}
pub use Rattle.std.proofs.lemmas.Result.{on_ok_weaker}
pub use Rattle.std.specs.Int.{cast_signed, cast_unsigned, w32}
pub use Rattle.std.specs.List.{AllByRecursion, before_first, filter, flat_map, fold, last_or, list_any, position, position_or_len, remove, slice_get}
unfoldable pub use Rattle.std.specs.List.{IsDistinct}
pub use Rattle.std.specs.Option.{option_and_then, option_map, option_to_list, unwrap_or}
pub use Rattle.std.specs.Prelude.{find, if◌then◌else◌, nat_le, nat_lt, not, slice_index, slice_index_or, slice_set, ◌&&◌, ◌==◌}
pub use Rattle.std.specs.Result.{IfOk, OnOk}
