-- The names of lemmas on edits that proofs on several commands cite, passed on from one place. Declares nothing.
pub use Rattle.cdf_edits.proofs.Commands.Answered.{gone_by_giving, refused}
pub use Rattle.cdf_edits.proofs.Commands.KeptRecords.{AllKeep-append, Stood, keep_attributes, keeps_stood}
pub use Rattle.cdf_edits.proofs.Commands.ListParts.{AtNumber, Cut, at_number, got-map, got-middle, got_in, map-removed, map-without, same_middle}
pub use Rattle.cdf_edits.proofs.Commands.TypeCodes.{code_small, type_back}
pub use Rattle.cdf_edits.proofs.Edits.ActsStill.{acts_still_by}
pub use Rattle.cdf_edits.proofs.Edits.ActsThen.{acts_gave, all_gave, gave-same, was_listed}
pub use Rattle.cdf_edits.proofs.Edits.ChainEntries.{num_in, nums}
pub use Rattle.cdf_edits.proofs.Edits.ChainKept.{link_allowed, records_are}
pub use Rattle.cdf_edits.proofs.Edits.ChainKinds.{adr_of, attribute_typed, chain_has, chain_in, other_has, other_in, other_of, other_type}
pub use Rattle.cdf_edits.proofs.Edits.ChainOwners.{IsHeld, not_twice_kept}
pub use Rattle.cdf_edits.proofs.Edits.ChainSpliced.{Rechains, adr_in, adr_start, adr_typed, after_away, after_in, attribute_now, before_away, before_in, clear_file, file_now, now_is, num_same, other_kept, splices, there}
pub use Rattle.cdf_edits.proofs.Edits.ChainsOfShape.{IsOf, few_members, has_chain, lists, members_are, out_counted}
pub use Rattle.cdf_edits.proofs.Edits.Composing.{changed_edit, edit_then, head_size, head_type, same-then}
pub use Rattle.cdf_edits.proofs.Edits.EditActs.{acts_none, acts_took}
pub use Rattle.cdf_edits.proofs.Edits.EntryFields.{of_shape}
pub use Rattle.cdf_edits.proofs.Edits.FreedAfter.{Frees, all_freed, freed_acts, freed_bytes, freed_edit, freed_long, freed_places, freed_records, freed_shape, freed_types, freeing_behind, gdr_still, may_free, others_kept, says_still, sizes_before, sound_now}
pub use Rattle.cdf_edits.proofs.Edits.FreedBytes.{BytesStay, behind_link, behind_stays, end_long, free_used, freed_stay_but, unowned_used}
pub use Rattle.cdf_edits.proofs.Edits.FreedRecord.{FreesRecord, IsPlain, as_long_now, freed_each, freed_keeps_unused, freed_list, freed_real, freed_type, gdr_same, other_chain, other_links, records_now}
pub use Rattle.cdf_edits.proofs.Edits.FreedRecords.{edit_under, sizes_by_tiles, unused_real}
pub use Rattle.cdf_edits.proofs.Edits.InRecords.{places_of}
pub use Rattle.cdf_edits.proofs.Edits.LeafRecords.{Ascending, count_is, record_is, record_past, rising_records}
pub use Rattle.cdf_edits.proofs.Edits.LeftChain.{LeavesChain, LeavingTests, as_long, chain_now, counted_now, e_early, e_second, lasts_second, left_edit, list_now, may_linked, may_now, may_write, said_now, some_second}
pub use Rattle.cdf_edits.proofs.Edits.LeftOwners.{Left, can_be_freed, distinct_if, left_of, mine_once, mine_times, not_twice, owned_left, shape_there, sound_there}
pub use Rattle.cdf_edits.proofs.Edits.MadeRecord.{end_now, filled_content, filled_edit, filled_sound, fresh, list_chain, listed_before, listed_marks, loose_away, made_edit, made_keeps_unused, made_once, made_part, made_size, made_type, unlike, unowned}
pub use Rattle.cdf_edits.proofs.Edits.MarkLemmas.{Avoids-append, Avoids-split, Away-append, Within-append, all_unmarked-away, avoided-avoids, avoids-of_type, away-of_type, ended-avoids, or_cases, the_one, unmarked-away, within-of_type, within-within}
pub use Rattle.cdf_edits.proofs.Edits.NumbersBehind.{SaysNumber, are_numbered, fewer_rows, numbering, others_in, others_say, place_in, tiles_numbered}
pub use Rattle.cdf_edits.proofs.Edits.OneChain.{differ_before, end_before, good_settled, got_middle, items_of, items_with, rules_before}
pub use Rattle.cdf_edits.proofs.Edits.OneSpliced.{content_replaced}
pub use Rattle.cdf_edits.proofs.Edits.OnlyTaken.{Once, OnlyTakes, acts_carry, having, none_of_both, untaken}
pub use Rattle.cdf_edits.proofs.Edits.OwnEdited.{OwnEdit, good_in_place, named_before, own_ruled, r_max_rec_kept, shape_stays}
pub use Rattle.cdf_edits.proofs.Edits.OwnedOnce.{IsSorted, OnlyOwns, all_attributes_in, back_in, front_in, none_in_use, only_owns, own_in, owned_once_if, parts_once, unused_none, used_times}
pub use Rattle.cdf_edits.proofs.Edits.OwnersKept.{all_keep, keep_all, keep_attributes_alone, keep_each, keep_file, keep_parts, keep_places, keep_unused, keeps_away, keeps_fields, keeps_stays, keeps_within, stood, taken_is_taken}
pub use Rattle.cdf_edits.proofs.Edits.RecordFrame.{VariableLives, cdr_kept, chain_clear, chain_kept, chain_stays, cpr_own, field_avoids, field_clear, file_same, gdr_field, gdr_place, gdr_start, index_records, kept, kept_away, kept_but_link, part_clear}
pub use Rattle.cdf_edits.proofs.Edits.RecordPlaced.{Grows, grows_not, placed_grows, placing_marks, still_edit}
pub use Rattle.cdf_edits.proofs.Edits.RowsOneLess.{AreNumbered, numbered_still}
pub use Rattle.cdf_edits.proofs.Edits.StaysBut.{StaysBut, field_stays, stays_within}
pub use Rattle.cdf_edits.proofs.Edits.StepEdits.{fixed_long, gdr_in, gdr_long, gdr_typed, gives_edit, some_bytes, takes_edit}
pub use Rattle.cdf_edits.proofs.Edits.TakenVariable.{SaysTaken, Stands, TakesVariable, back_out, content_taken, left_by, once, ours, own_stand, sound_taken, taken_good, tests, vdr_avoids, vdr_record, vdr_there, without_variable}
pub use Rattle.cdf_edits.proofs.Edits.VariableCopied.{block_behind, content_copied, cpr_behind, fits_copied, index_rules_stay, links_copied, node_behind, rules_stay}
pub use Rattle.cdf_edits.proofs.Edits.VariableFrame.{AreOurs, Each-apply, Each-map, IsRuled, all_ruled, all_variables_kept, index_typed, nums_from, ours_parts, remain_from, variable_typed, variables_in}
pub use Rattle.cdf_edits.proofs.Edits.VariableKeeps.{all_kept, stays_bytes, stays_then, stays_word, type_stays}
pub use Rattle.cdf_edits.proofs.Edits.VariableKept.{keep_kinds, keep_own, keep_variable_parts, only_variable, same_as_itself, vdr_allowance}
pub use Rattle.cdf_edits.proofs.Edits.VariableKinds.{attributes_counted, counted_before, keeps_kind, kind_chain, kind_in, kind_ours, kind_times, kind_type, of_kind, other_kind, spliced_times, vdrs_rows, with_shapes}
pub use Rattle.cdf_edits.proofs.Edits.VariableNames.{apart_if}
pub use Rattle.cdf_edits.proofs.Edits.VariableSplice.{OwnRules, VariableSplices, attributes_kept, attributes_stay, content_now, good_image_if, keeps_all_attributes, shape_now, sound_if}
pub use Rattle.cdf_edits.proofs.Edits.VdrEdited.{EditsVdr, MarkTests, StandsAmong, after_ours, behind_in, behind_kept, behind_ours, file, fits, has, high, least_size, long, name_room, no_block, sound, through, tile, typed}
pub use Rattle.cdf_edits.proofs.Edits.WrittenFields.{MayWrite, may_after, write_lies, writes_edit, writes_lie, writes_long, written_tiles}
pub use Rattle.cdf_edits.proofs.Frame.ChangedBytes.{changed_put}
pub use Rattle.cdf_edits.proofs.Frame.LinksStay.{SameHeads, index_kept, names_kept, node_kept, nodes_kept}
pub use Rattle.cdf_edits.proofs.Frame.Meaning.{EntryMeans, FileSame, Kept, KeptButLink, but_link, entry_means, late_size, late_type, pad_late, pad_long, pad_wide, pad_width}
pub use Rattle.cdf_edits.proofs.Frame.OwnerAlone.{Each-in}
pub use Rattle.cdf_edits.proofs.Frame.OwnersApart.{all_attribute_records, all_variable_records, file_from_attributes, file_records, flat-append, in-times, owned-times, times-append, times-in, times-three}
pub use Rattle.cdf_edits.proofs.Frame.VdrAlike.{VdrAlike, plain_alike}
pub use Rattle.cdf_edits.proofs.Frame.VdrCopied.{Copied, VdrCopied, copied_in_place, copied_part, pad_field_copied, piece_copied, type_copied, value_copied, word_copied}
pub use Rattle.cdf_edits.proofs.Frame.VdrStays.{VdrStays, end_stays, name_stays, packed_stays, stays_alike}
pub use Rattle.cdf_edits.proofs.Rules.FirstHead.{FirstSays, first_hold, first_said}
pub use Rattle.cdf_edits.proofs.Rules.OfVdrCopied.{cpr_stays, variable_rules_alike}
pub use Rattle.cdf_edits.proofs.Rules.WithoutLinks.{eof_by_rules}
pub use Rattle.cdf_edits.proofs.Space.ActsLeave.{among_sized, each, no_acts, no_rest, places-sized}
pub use Rattle.cdf_edits.proofs.Space.LaidOut.{laid_kept, placed_laid, says_laid_out, value_laid}
pub use Rattle.cdf_edits.proofs.Space.TakenFromList.{leads_rest, same_link}
pub use Rattle.cdf_edits.proofs.Space.UsedRecords.{apart, filter-distinct, in-filter, filter-says, used-in}
