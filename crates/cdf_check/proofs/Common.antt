-- The names that most proofs of this crate cite, passed on from one place. Declares nothing.
pub use Rattle.cdf_area.proofs.Calls.{read_done, read_failed, read_more, read_once}
pub use Rattle.cdf_area.specs.Calls.{Stays}
pub use Rattle.cdf_check.specs.Entries.{AreAttributes, Describes, IsAttribute, entry_walk}
pub use Rattle.cdf_check.specs.Named.{AreNamed}
pub use Rattle.cdf_check.specs.Variables.{AreDescribed, AreFields, AreValues, AreVariables, HasRoomForSizes, HasSizes, IsVariable, IsVariableOf, Measures, packing_rows, records_rows, shape_rows, value_rows}
pub use Rattle.cdf_check.specs.Verdicts.{Judges, JudgesImage, JudgesStart}
pub use Rattle.cdf_format.proofs.ChainsLemmas.{chain_sound, is_a-in, linkable-in, linkable-type}
pub use Rattle.cdf_format.proofs.Members.{Distinct-middle, In-append, either, length-le_from_distinct}
pub use Rattle.cdf_format.proofs.RowLemmas.{Hold-append, Hold-asked, Hold-member, Hold-members, IsBroken-after, IsBroken-before}
pub use Rattle.cdf_format.proofs.Tests.{both, le_of, of_le}
pub use Rattle.cdf_format.proofs.TilesLemmas.{length_tiles, tile_lies, tiling_sound}
pub use Rattle.cdf_format.specs.AttributeRules.{adr_rows, attribute_rows, entries_rows, entry_rows, has_name, phase6, same_name, same_number}
pub use Rattle.cdf_format.specs.ChainRules.{chain_rows, count_rows, differ_rows, phase5}
pub use Rattle.cdf_format.specs.Chains.{chain, is_in}
pub use Rattle.cdf_format.specs.Fields.{Holds, LiesIn, counted, encoding, gdr_offset, is_positive, name_at, name_field, name_in, number, r_num_dims, size_at, type_at, word, words}
pub use Rattle.cdf_format.specs.FileRules.{gdr_rows, has_gdr, is_record, phase0, phase1, phase2, phase3}
pub use Rattle.cdf_format.specs.IndexRules.{phase8}
pub use Rattle.cdf_format.specs.NotRead.{unread_variable, unread_variables}
pub use Rattle.cdf_format.specs.Owners.{attribute_records, owned_records, unused_records, variable_records}
pub use Rattle.cdf_format.specs.Phases.{first_phases, image_phases, phase10, phase9}
pub use Rattle.cdf_format.specs.RecordRules.{phase4, record_rows}
pub use Rattle.cdf_format.specs.RecordTypes.{adr_type, fixed_size, gdr_type, r_vdr_type, uir_type, z_vdr_type}
pub use Rattle.cdf_format.specs.Records.{Field, adr_name, adr_ngr_entries, adr_nz_entries, aedr_num, field, gdr_adr_head, gdr_r_dim_sizes, gdr_r_num_dims, gdr_r_vdr_head, gdr_z_vdr_head, record_type, vdr_cpr_or_spr_offset, vdr_data_type, vdr_max_rec, vdr_name, vdr_num_elems, vdr_s_records, vdr_vxr_head}
pub use Rattle.cdf_format.specs.Rules.{AllHold, FirstBroken, Hold, IsBroken, Row, asked, row}
pub use Rattle.cdf_format.specs.Sealed.{has_checksum, image_of, trailer_length, trailer_size}
pub use Rattle.cdf_format.specs.Shape.{AttributeShape, adr_chain, adrs, attribute_shape, gr_entry_chain, is_compressed, r_vdr_chain, variable_shape, vdrs, z_entry_chain, z_vdr_chain}
unfoldable pub use Rattle.cdf_format.specs.Shape.{shape}
pub use Rattle.cdf_format.specs.Stored.{known_type}
pub use Rattle.cdf_format.specs.Tiles.{AreTiles, Distinct, In, tiles, tiling}
pub use Rattle.cdf_format.specs.VariableFields.{counted4, dimensions_at, dims_at, elems_at, is_z, record_bytes, type_of_variable, varys_at}
pub use Rattle.cdf_format.specs.VariableRules.{has_elements, is_named_apart, phase7, variable_rows, vdr_end}
pub use Rattle.cdf_format.specs.Walks.{Walk, records_of, whole}
pub use Rattle.cdf_model.specs.Place.{record_limit, record_size}
pub use Rattle.cdf_records.proofs.Places.{word4_fits, word_fits}
pub use Rattle.cdf_structure.proofs.Findings.{none_found, one_found}
pub use Rattle.cdf_structure.proofs.Rows.{In-get_or, IsBroken-split, all_of_three, broken_member, first_of_three, holds_more, one_more, second_of_three, third_of_three}
pub use Rattle.cdf_structure.specs.FileChains.{AreChains, AreLong}
pub use Rattle.cdf_structure.specs.Findings.{Finds, Yields}
pub use Rattle.cdf_structure.specs.Indexes.{cpr_at}
pub use Rattle.cdf_structure.specs.Records.{AreRecords, unused_of}
pub use Rattle.cdf_structure.specs.declared.finding.Finding.{Finding}
pub use Rattle.std.proofs.Common.{Bool, Err, List, None, Ok, Option, Some, [], add-one, ap, append-nil, append_assoc, ap₂, arith, bytes_eq, drop, eq-eqb, eqb, false, get_or, inl, inr, length, length-take, map, not, refl, rules, subst, suc, sym, take, true, true≢false, zero, ℕ, ℤ, ◌&&◌, ◌*◌, ◌++◌, ◌+◌, ◌-◌, ◌<◌, ◌^◌, ◌||◌, ◌∙◌, ◌∷◌, ◌≡◌, ◌≢◌, ◌≤◌}
pub use Rattle.std.proofs.Math.Facts.{to_z-neg}
pub use Rattle.std.proofs.Math.Path.{subst₂}
pub use Rattle.std.proofs.lemmas.Bool.{and_from, cases_lt, ne_eqb, not-false, not-true}
pub use Rattle.std.proofs.lemmas.Bool.Decides.{nat_tests}
pub use Rattle.std.proofs.lemmas.Int.{of_z-to_z, to_z_pos}
pub use Rattle.std.proofs.lemmas.List.{length-map, length_push, map-append, take_all, take_more}
pub use Rattle.std.specs.Int.{cast_signed, cast_unsigned, w32, w64}
pub use Rattle.std.specs.List.{filter, flat_map, list_all, list_any}
pub use Rattle.std.specs.Option.{SomeIff}
pub use Rattle.std.specs.Prelude.{if◌then◌else◌, is_some, nat_le, ◌==◌}
pub use Rattle.std.specs.declared.alloc.Global.{Global}
pub use Rattle.std.specs.declared.vec.Vec.{Vec}
