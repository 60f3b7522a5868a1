-- The names that most proofs of this crate cite, passed on from one place. Declares nothing.
pub use Rattle.byteorder.specs.Endian.{big_bytes}
pub use Rattle.cdf_area.proofs.Calls.{edit_done, edit_failed, edit_more, edits_by_write, keeps_by_read, read_done, read_failed, read_more, read_once, read_without_memory}
pub use Rattle.cdf_area.specs.Calls.{Stays}
pub use Rattle.cdf_area.specs.Frame.{Frame}
pub use Rattle.cdf_area.specs.declared.area.AreaError.{AreaError}
unfoldable pub use Rattle.cdf_base.specs.Bytes.{put}
pub use Rattle.cdf_edits.proofs.Commands.Answered.{gone, refused, too_large}
pub use Rattle.cdf_edits.proofs.Commands.FineNames.{fine_has_no_zeros, fine_is_short, fine_is_some}
pub use Rattle.cdf_edits.proofs.Commands.KeptRecords.{keep_attributes}
pub use Rattle.cdf_edits.proofs.Commands.ListParts.{AtNumber, at_number, cut, got-map, got-middle, got_in, last_got, last_removed, map-removed, removed-at}
pub use Rattle.cdf_edits.proofs.Common.{Anything, AreTiles, Byte, Exchanged, Holds, IsGiven, Keeps, Pad, Previous, SetsPad, Unused, cases_lt, content_of, count_of, dimension_limit, either, eof, flags, has_dimensions, is_a-from, is_characters, is_compressed, is_in-true, is_no_link, leb-true, length-bytes_high_first, lt-leb, majority_of, no_node, notation_of, only_of, owned_by, same_kind, sealed_keeps, set_at, set_pad_changes, times-none, type_of, unused, unused_records, unwrap_or, variable_records, with_space}
pub use Rattle.cdf_edits.proofs.Edits.Common.{Avoids-append, Copied, FirstSays, IsHeld, IsRuled, IsSorted, OwnRules, VariableLives, VariableSplices, Within-append, acts_none, all_attribute_records, all_keep, all_variable_records, apart_if, attributes_kept, avoided-avoids, chain_clear, changed_put, code_small, content_now, edit_then, first_hold, first_said, fits, gdr_place, good_image_if, high, keep_unused, keeps_within, laid_kept, leads_rest, made_keeps_unused, none_in_use, nums_from, owned_once_if, pad_late, pad_wide, part_clear, placed_laid, places-sized, placing_marks, same_as_itself, same_link, says_laid_out, shape_now, sizes_by_tiles, takes_edit, type_back, used_times, within-within, word_copied}
pub use Rattle.cdf_edits.proofs.Edits.EditActs.{acts_took}
pub use Rattle.cdf_edits.proofs.Edits.JoinedVdr.{JoinsVdr, behind_link, edit, ends, file, fills, gdr_is, is_vdr_body, joined_acts, joined_size, joined_splices, joined_type, linked, lives, marks, member_in, t}
pub use Rattle.cdf_edits.proofs.Edits.MadeRecord.{end_now, filled_content, filled_edit, filled_size, filled_sound, list_chain, listed_before, listed_marks, loose_away, made_edit, made_once, place_in, second, shorter, unlike}
pub use Rattle.cdf_edits.proofs.Edits.MarkLemmas.{away-avoids, away-within, or_cases, the_one, unmarked-away}
pub use Rattle.cdf_edits.proofs.Edits.OwnersKept.{keep_file, keeps_fields}
pub use Rattle.cdf_edits.proofs.Edits.RemovalCalls.{cdr_second, emptied_by, few, field_second, inside, lie_after, lies_mid, this, variables_listed}
pub use Rattle.cdf_edits.proofs.Edits.RemovedVariable.{content_after, greatest_fits, last_fits, shape_after}
pub use Rattle.cdf_edits.proofs.Edits.StepEdits.{gdr_in, gdr_long, gdr_typed}
pub use Rattle.cdf_edits.proofs.Edits.VariableKinds.{counted_before, kind_chain, kind_ours, kind_type, numbers_kept, of_kind, other_kind, spliced_times, variables_of_are, vdrs_rows, vdrs_rows-push, with_shapes}
pub use Rattle.cdf_edits.proofs.Edits.VariableNames.{IsBeside, beside_in, names_apart, own_names_apart}
pub use Rattle.cdf_edits.proofs.Edits.VdrEdited.{EditsVdr, StandsAmong, content_replaced, follows_by, good_now, in_middle, keeps_vdr, long, no_block, own_ruled, same_shape, sound, splices, tile, typed}
pub use Rattle.cdf_edits.proofs.Space.LaidOut.{length-words, words_laid_out}
pub use Rattle.cdf_edits.proofs.Space.UsedRecords.{apart}
pub use Rattle.cdf_edits.specs.Answers.{Answers}
pub use Rattle.cdf_edits.specs.Commands.Allowances.{AllKeep, Allowances, FreedStay, Only, OwnAllowances, StaysOrSays, of_named, of_variable, shapes_of, space_fields, stays_all, stays_own, vdr_type}
pub use Rattle.cdf_edits.specs.Commands.Does.{Does}
pub use Rattle.cdf_edits.specs.Commands.Keeps.{allowances}
pub use Rattle.cdf_edits.specs.Commands.NewRecords.{IsFilled, MovesForRoom, Says, moved_for_room, with_bits}
pub use Rattle.cdf_edits.specs.Commands.Room.{put_room, quotient_up, reindex_room, room, room_of_variable, vdr_bytes}
unfoldable pub use Rattle.cdf_edits.specs.Commands.Room.{nodes_above}
pub use Rattle.cdf_edits.specs.Commands.Variables.{MakesVariable, RenamesVariable, VarysWritten, freed_with_variable, rename_var_changes, set_blocking_changes, variable_changes}
pub use Rattle.cdf_edits.specs.Edits.Edit.{Edit}
pub use Rattle.cdf_edits.specs.Edits.Marks.{Among, Away, Mark, avoided, field_marks, is_late, making_marks, mark, within}
pub use Rattle.cdf_edits.specs.Edits.RemovesVariable.{RemovesVariable, greatest_at, numbers_on, r_max_writes}
pub use Rattle.cdf_edits.specs.Edits.Writes.{with_writes}
pub use Rattle.cdf_edits.specs.Follows.{Follows, only_reads}
pub use Rattle.cdf_edits.specs.Frame.Changed.{Changed, touch, touched_field}
pub use Rattle.cdf_edits.specs.Index.Blocks.{block_count, first_written}
pub use Rattle.cdf_edits.specs.Space.Acts.{Act, ActsFollow, Gave, Took}
pub use Rattle.cdf_edits.specs.Space.Chains.{HasChain, HolderStands, before, counted_in, head_of, members_of, type_in}
pub use Rattle.cdf_edits.specs.Space.Placement.{Takes}
pub use Rattle.cdf_edits.specs.Space.Placing.{Fills, IsBody, Placed, laid_out, type_of_body}
pub use Rattle.cdf_edits.specs.Space.VariableChains.{variables_chain}
pub use Rattle.cdf_edits.specs.declared.chain.Chain.{Chain}
pub use Rattle.cdf_fields.proofs.NamesWritten.{before_zeros, name_reads}
pub use Rattle.cdf_fields.proofs.Writes.{drop-put_there, field_reads, field_reads4, length-with_field, other_bytes, word-put_number}
pub use Rattle.cdf_format.proofs.BytesLemmas.{byte-put_after, byte-put_before, byte-put_inside, length-put, piece_kept, word_kept, words_kept}
pub use Rattle.cdf_format.proofs.ChainsLemmas.{is_a-in, linkable-in, linkable-type}
pub use Rattle.cdf_format.proofs.GoodByShape.{IsGoodByShape}
pub use Rattle.cdf_format.proofs.GoodHead.{cdr_fits, gdr_fits}
pub use Rattle.cdf_format.proofs.GoodImageLemmas.{good_image, vdrs_append}
pub use Rattle.cdf_format.proofs.GoodSound.{good_by_its_shape, good_eof, good_is_sound, rules_of_good}
pub use Rattle.cdf_format.proofs.Members.{In-append, In-append_left, In-append_right, length-le_from_distinct}
pub use Rattle.cdf_format.proofs.NameRules.{absent-split, names_at}
pub use Rattle.cdf_format.proofs.SealedRules.{good_long, sealed_kept}
pub use Rattle.cdf_format.proofs.ShapeLemmas.{Each-split, content_is, shape_is}
pub use Rattle.cdf_format.proofs.TilesLemmas.{length_tiles, tile_lies}
pub use Rattle.cdf_format.specs.Bytes.{Same, byte}
pub use Rattle.cdf_format.specs.Chains.{IsChain, Leads, is_in, next_field, next_of}
pub use Rattle.cdf_format.specs.Content.{content, variable_of}
pub use Rattle.cdf_format.specs.Fields.{LiesIn, counted, gdr_offset, has_bit, integer4, is_positive, name_at, name_field, name_in, number, r_num_dims, r_sizes, signed4, size_at, type_at, with_field, with_name, with_sign, word, words}
pub use Rattle.cdf_format.specs.Index.{Leaf}
unfoldable pub use Rattle.cdf_format.specs.Index.{leaves_of, nodes_of}
pub use Rattle.cdf_format.specs.NewFile.{of_4_bytes}
pub use Rattle.cdf_format.specs.Owners.{owned, owned_records, times}
pub use Rattle.cdf_format.specs.RecordTypes.{cdr_type, fixed_size, gdr_type, is_record_type, uir_type, z_vdr_type}
pub use Rattle.cdf_format.specs.Records.{Field, cdr_encoding, cdr_flags, cdr_gdr_offset, cdr_increment, cdr_release, cdr_version, gdr_adr_head, gdr_eof, gdr_leap_second_last_updated, gdr_nr_vars, gdr_num_attr, gdr_nz_vars, gdr_r_dim_sizes, gdr_r_max_rec, gdr_r_num_dims, gdr_r_vdr_head, gdr_rfu_c, gdr_rfu_e, gdr_uir_head, gdr_z_vdr_head, record_type, uir_next_uir, uir_prev_uir, vdr_blocking_factor, vdr_flags, vdr_max_rec, vdr_name, vdr_num, vdr_num_elems, vdr_vdr_next, vdr_vxr_head, vdr_z_num_dims}
pub use Rattle.cdf_format.specs.Rules.{Hold}
pub use Rattle.cdf_format.specs.Shape.{Each, HasShape, HasVariable, Shape, VariableShape, shape, variables, vdrs}
pub use Rattle.cdf_format.specs.Sound.{IsSound, VariableFits}
pub use Rattle.cdf_format.specs.Stored.{is_little}
pub use Rattle.cdf_format.specs.Tiles.{Distinct, In}
pub use Rattle.cdf_format.specs.VariableFields.{counted4, dimensions_at, dims_at, elems_at, has_pad, is_z, max_rec_at, pad_at, pad_field, record_bytes, type_of_variable, value_bytes, vary_field, varys_at}
pub use Rattle.cdf_format.specs.VariableRules.{is_max_rec, vdr_end}
pub use Rattle.cdf_format.specs.WellFormed.{Good}
pub use Rattle.cdf_index.specs.Finding.{HasIndex, index_at}
pub use Rattle.cdf_model.specs.Answers.{Answer, Go, given, unless}
pub use Rattle.cdf_model.specs.ByteOrder.{turned}
pub use Rattle.cdf_model.specs.DataSet.{DataSet, Variable, extent}
pub use Rattle.cdf_model.specs.Encodings.{encoding_at}
pub use Rattle.cdf_model.specs.Limits.{image_limit, record_number_limit, signed_limit}
pub use Rattle.cdf_model.specs.Listing.{variable_items}
pub use Rattle.cdf_model.specs.Names.{Found, found_in, is_among, is_bad_name, numbered, variable_named, variable_names, variables_of, with_variables}
pub use Rattle.cdf_model.specs.Place.{has_place, place, record_limit, record_size, value_count}
pub use Rattle.cdf_model.specs.Reading.{pad_record, read}
pub use Rattle.cdf_model.specs.RecordSteps.{cannot_be_put, get_rec_step, get_val_step, last_number, place_in_record, value_size, with_record, with_value}
pub use Rattle.cdf_model.specs.Step.{ByStep, step}
pub use Rattle.cdf_model.specs.Types.{size_of}
pub use Rattle.cdf_model.specs.Values.{values_in}
pub use Rattle.cdf_model.specs.VariableSteps.{are_bad_sizes, is_bad_shape, is_empty_set, new_variable, var_step, with_variable}
pub use Rattle.cdf_model.specs.declared.answer.Outcome.TheVariants.{Done, Refused}
pub use Rattle.cdf_model.specs.declared.answer.Reason.{Reason}
pub use Rattle.cdf_model.specs.declared.answer.Reason.TheVariants.{BadName, BadShape, InUse, IndexOutOfRange, NameTaken, NoSuchVar, NumberOutOfRange, RecordOutOfRange, TooLarge}
pub use Rattle.cdf_model.specs.declared.answer.Reply.{Reply}
pub use Rattle.cdf_model.specs.declared.answer.Reply.TheVariants.{Plain}
pub use Rattle.cdf_model.specs.declared.command.Command.{Command}
pub use Rattle.cdf_model.specs.declared.command.Command.TheVariants.{GetRec, GetVal, PutRec, PutVal, Reindex, RenameVar, SetBlocking, SetPad, Setup}
pub use Rattle.cdf_model.specs.declared.data_type.DataType.{DataType}
pub use Rattle.cdf_model.specs.declared.head.Majority.{Majority}
pub use Rattle.cdf_model.specs.declared.head.Majority.TheVariants.{Column, Row}
pub use Rattle.cdf_model.specs.declared.item.Item.{Item}
pub use Rattle.cdf_model.specs.declared.kinds.Kind.{Kind}
pub use Rattle.cdf_model.specs.declared.kinds.Kind.TheVariants.{R, Z}
pub use Rattle.cdf_model.specs.declared.kinds.Sparse.TheVariants.{NoRule}
pub use Rattle.cdf_names.specs.Names.{has_name, last_to, number_of}
pub use Rattle.cdf_puts.proofs.RaisedGoes.{raised_shape, vdr_no_gdr}
pub use Rattle.cdf_puts.specs.Putting.{IsPut, PutsUpTo, Putting, SomePutting, most_in_block}
pub use Rattle.cdf_puts.specs.Steps.{MaxRecRaised}
pub use Rattle.cdf_puts.specs.declared.putting.NewRecord.{NewRecord}
pub use Rattle.cdf_records.proofs.Places.{word_fits}
pub use Rattle.cdf_records.specs.Pieces.{AreBytes}
pub use Rattle.cdf_records.specs.declared.cdr.Cdr.{Cdr}
pub use Rattle.cdf_reindex.specs.Reindexed.{Reindexed}
pub use Rattle.cdf_space.proofs.Filling.{word-put_inside}
pub use Rattle.cdf_values.proofs.TurnedLemmas.{back, in_place, size_stays}
pub use Rattle.cdf_values.proofs.ValueLengths.{size_some, values_long, whole_elements}
pub use Rattle.cdf_values.specs.Reading.{Explains}
pub use Rattle.cdf_values.specs.declared.read.ValueError.{ValueError}
pub use Rattle.cdf_var_records.proofs.PadSites.{at, dims_long, has_so_many, own, pad_place, small_signed, vdr_lies, words_long}
pub use Rattle.cdf_var_records.proofs.RecordForms.{index_is, some_elements, variable_is}
pub use Rattle.cdf_var_records.proofs.RecordReading.{record_size_is, values_fit}
pub use Rattle.cdf_var_records.proofs.RecordsRead.{pad_long, read_long}
pub use Rattle.cdf_var_records.specs.Descriptors.{HasElements, IsPlace, IsVdr}
pub use Rattle.cdf_var_records.specs.Records.{IsForm, variable_at}
pub use Rattle.cdf_var_records.specs.declared.form.Form.{Form}
pub use Rattle.cdf_var_records.specs.declared.pad_place.PadPlace.{PadPlace}
pub use Rattle.cdf_vars.specs.Chains.{chain_of}
pub use Rattle.cdf_vars.specs.Creating.{HasDims, NewVariable, OthersStay, making, own_dims, vary_code, vdr_fields, wanted}
unfoldable pub use Rattle.cdf_vars.specs.Creating.{vdr_body}
pub use Rattle.cdf_vars.specs.Finding.{found_among, found_of, id_of, names_of}
pub use Rattle.cdf_vars.specs.Known.{Known, KnownKind, Knows, KnowsKind, MayRename, known_of}
pub use Rattle.cdf_vars.specs.Padding.{IsPadded, IsRequest, IsValue, MayPad, MovedTo, Moves, padded_body, padded_flags}
pub use Rattle.cdf_vars.specs.Puts.{CanPut, HasRoom, HasTarget, IsNewRecord, IsTarget, MaxRecRaises, MayPut, PutsAs, PutsSo, target_found}
pub use Rattle.cdf_vars.specs.Reading.{AreNamed, items_at}
pub use Rattle.cdf_vars.specs.Records.{HasForm}
pub use Rattle.cdf_vars.specs.Removing.{AreRecordsAt, VdrsLie}
pub use Rattle.cdf_vars.specs.Setup.{MakesGdr, MovesGdr, WritesHeads, gdr_fields}
pub use Rattle.cdf_vars.specs.declared.puts.Target.{Target}
pub use Rattle.cdf_vars.specs.declared.vars.VarId.{VarId}
pub use Rattle.std.proofs.Common.{Bool, Err, FitsSigned, List, None, Ok, OnOk, Option, Some, [], ap, append-nil, append_assoc, ap₂, arith, bytes_eq, drop, drop-cons, eq-eqb, false, get_or, inl, inr, length, lit<, map, max, min, not, pos, refl, replicate, rules, subst, suc, sym, take, take-append-drop, true, true≢false, zero, ℕ, ℤ, ◌%◌, ◌*◌, ◌++◌, ◌+◌, ◌-◌, ◌/◌, ◌<◌, ◌^◌, ◌∙◌, ◌∷◌, ◌≡◌, ◌≢◌, ◌≤◌, ◌⊎◌}
pub use Rattle.std.proofs.Math.Nat.{le-mul_of_pos_right, mul-le-mul_right, mul-mod_right}
pub use Rattle.std.proofs.lemmas.Bool.{and_from, eqb-true, le-leb, le-ltb, lt-ltb, ltb-false, ne_eqb, or_parts}
pub use Rattle.std.proofs.lemmas.Bool.Decides.{nat_tests}
pub use Rattle.std.proofs.lemmas.Int.{of_z-to_z, to_z-of_z, to_z_pos}
pub use Rattle.std.proofs.lemmas.List.{at_drop_all, at_drop_more, drop-drop, drop_at, get_or-drop, get_or-take, get_or_append_left, length-append, length-drop, length-map, length-replicate, length-take, map-append, map-set, map_more, take_all, take_at}
pub use Rattle.std.proofs.lemmas.Option.{same_Some, slice_get_within}
pub use Rattle.std.proofs.lemmas.Result.{IfOk-weaker, on_ok_weaker}
pub use Rattle.std.specs.Int.{cast_signed, cast_unsigned, w32}
pub use Rattle.std.specs.List.{All, AllByRecursion, before_first, flat_map, fold, last_or, list_all, list_any, position, remove, slice_get}
unfoldable pub use Rattle.std.specs.List.{IsDistinct}
pub use Rattle.std.specs.Option.{is_none, option_map, option_or}
pub use Rattle.std.specs.Prelude.{IfOk, if◌then◌else◌, is_some, nat_le, nat_lt, slice_index, slice_set, ◌&&◌, ◌==◌, ◌||◌}
pub use Rattle.std.specs.declared.result.Result.{Result}
