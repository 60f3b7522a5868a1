-- The names that most proofs of this crate cite, passed on from one place. Declares nothing.
pub use Rattle.cdf_area.proofs.Calls.{read_done}
pub use Rattle.cdf_edits.proofs.Common.{Bool, Byte, DataSet, DataType, Each, Each-append, Each-split, Entries, Field, Good, IsGoodByShape, Kind, List, NoRule, Nodes, None, Option, Pad, Previous, R, Range, Some, Variable, VariableShape, Z, [], ap, ap₂, arith, block, both, cast_signed, cast_unsigned, content, content_is, counted, counted4, cuts_before_put, dimensions_at, dims_at, drop, either, elems_at, extent, false, field_bytes, fixed_size, gdr_offset, gdr_r_num_dims, good_by_its_shape, good_is_sound, has_bit, has_dimensions, has_elements, has_pad, if◌then◌else◌, inl, inr, is_characters, is_little, is_positive, is_sparse, is_z, item_at, known_type, le-ltb, le_of, leb, length, length-drop, length-map, length-take, list_all, lower, lt-ltb, ltb, majority_of, map, max, max_rec_at, min, nat_le, nat_lt, negsuc, network_bytes, no_entry, no_node, node, not, notation_of, number, option_map, pad_field, pad_record, plain_bytes, pos, r_num_dims, r_sizes, range, read, record_bytes, record_limit, record_number_limit, refl, same_Some, shape, signed_limit, size_at, sparse_at, subst, suc, sym, take, take_at, tile_lies, true, turned, type_at, type_in, type_of, type_of_variable, unwrap_or, value_bytes, value_count, variable_of, variables, variables_chain, vary_field, varys_at, vdr_bytes, vdr_data_type, vdr_num_elems, vdr_r_dim_vary, vdr_r_pad_value, vdr_vxr_head, vdr_z_dim_vary, vdr_z_num_dims, vdr_z_pad_value, vdrs, w32, with_sign, word, words, z_vdr_type, zero, ℕ, ℤ, ◌%◌, ◌*◌, ◌++◌, ◌+◌, ◌-◌, ◌/◌, ◌<◌, ◌==◌, ◌^◌, ◌||◌, ◌∙◌, ◌∷◌, ◌≡◌, ◌≤◌, ◌⊎◌, size_of, nat_tests}
unfoldable pub use Rattle.cdf_edits.proofs.Common.{entry_leaves, leaves_of}
pub use Rattle.cdf_edits.proofs.Edits.Common.{IsRuled, high, name_room, of_kind, pad_width}
pub use Rattle.cdf_edits.proofs.Edits.VariableFrame.{all_ruled}
pub use Rattle.cdf_format.proofs.GoodHead.{cdr_fits, few_dimensions, gdr_fits, sizes_fit}
pub use Rattle.cdf_format.proofs.GoodImageLemmas.{good_image}
pub use Rattle.cdf_index.proofs.Common.{HoldsRecords, IfOk-weaker, IsGoodImage, Stays, least_first_past, of_z-to_z, record_in, record_of_leaf, seen, rules, append-nil, append_assoc}
pub use Rattle.cdf_index.proofs.GoodBlock.{good_block}
pub use Rattle.cdf_index.proofs.GoodIndex.{good_index}
pub use Rattle.cdf_index.proofs.LeafRules.{NoneBegins, none_begins}
pub use Rattle.cdf_index.proofs.LeavesAscend.{leaves_ascend}
pub use Rattle.cdf_index.proofs.OneVariable.{AmongAll, among_all}
pub use Rattle.cdf_index.proofs.PlainBlocks.{plain_block}
pub use Rattle.cdf_index.proofs.RecordRead.{record_is}
pub use Rattle.cdf_index.proofs.StoredRecords.{stored_record}
pub use Rattle.cdf_index.specs.declared.measuring.IndexSize.{IndexSize}
pub use Rattle.cdf_index.specs.declared.nodes.Leaf.{Leaf}
pub use Rattle.cdf_model.proofs.Filled.{length-repeat, repeat_more}
pub use Rattle.cdf_model.specs.Pads.{default_element, default_value}
pub use Rattle.cdf_model.specs.Place.{record_size}
pub use Rattle.cdf_model.specs.Reading.{missing, number_read, pad_value, read_at}
pub use Rattle.cdf_model.specs.declared.kinds.Sparse.{Sparse}
pub use Rattle.cdf_puts.proofs.Common.{Ascending, HasIndex, StandsAmong, block_count, blocks_room, covered, first_written, fits, index_at, leaf_of, leb-false, next_first, packed_room, put_room, ranges_before_put, ranges_of, read_more, read_once, repeat, sound, sum_by-cons, tile, typed, uncovered}
unfoldable pub use Rattle.cdf_puts.proofs.Common.{entry_firsts, firsts_of}
pub use Rattle.cdf_puts.proofs.CoveringRanges.{bound_is, next_past, of_leaves}
pub use Rattle.cdf_records.proofs.Places.{word_fits}
pub use Rattle.cdf_records.specs.Heads.{vdr_at}
pub use Rattle.cdf_records.specs.Pieces.{AreBytes}
pub use Rattle.cdf_records.specs.declared.vdr.Vdr.{Vdr}
pub use Rattle.cdf_shape.specs.declared.shape.Shape.{Shape}
pub use Rattle.cdf_values.proofs.TurnedLemmas.{size_stays}
pub use Rattle.cdf_values.proofs.ValueLengths.{size_some, whole_elements}
pub use Rattle.cdf_var_records.specs.Descriptors.{HasElements, IsPlace, IsVdr}
pub use Rattle.cdf_var_records.specs.Records.{IsForm, IsRecordShape, leaf_in, variable_at}
pub use Rattle.cdf_puts.specs.SharedRoom.{shared_room}
pub use Rattle.cdf_var_records.specs.PackedRoom.{IsBlockRoom}
pub use Rattle.cdf_var_records.specs.Room.{IsStretch, covered_before}
pub use Rattle.cdf_var_records.specs.declared.form.Form.{Form}
pub use Rattle.cdf_var_records.specs.declared.pad_place.PadPlace.{PadPlace}
pub use Rattle.cdf_var_records.specs.declared.put_room.Stretch.{Stretch}
pub use Rattle.std.proofs.Math.Nat.{mul-div_cancel_left, mul-le-mul_right}
