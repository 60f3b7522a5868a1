-- The names that most proofs of this crate cite, passed on from one place. Declares nothing.
pub use Rattle.std.proofs.lemmas.Bool.{and_from, and_parts, eqb-true, le-leb, leb-true}
pub use Rattle.std.proofs.lemmas.List.{get_or-drop, get_or-take, get_or_append_left, length-append, length-take}
pub use Rattle.std.specs.Int.{cast_signed, w32}
pub use Rattle.std.specs.List.{filter, flat_map}
pub use Rattle.std.specs.Prelude.{bytes_eq, if◌then◌else◌, nat_le, ◌==◌}
pub use Rattle.cdf_format.specs.AttributeRules.{adr_rows, entries_rows, same_name}
pub use Rattle.cdf_format.specs.Bytes.{Same}
pub use Rattle.cdf_format.specs.ChainRules.{adrs_rows, chain_rows, differ_rows, r_vdrs_rows, z_vdrs_rows}
pub use Rattle.cdf_format.specs.Chains.{IsChain, is_a, is_in, is_linkable, next_of}
pub use Rattle.cdf_format.specs.Content.{attribute_of, content}
pub use Rattle.cdf_format.specs.Fields.{counted, eof, gdr_offset, has_bit, name_in, number, r_num_dims, size_at, type_at, with_sign, word}
pub use Rattle.cdf_format.specs.FileRules.{gdr_rows, is_record}
pub use Rattle.cdf_format.specs.Index.{Entries, Leaf, Nodes, block, lower, no_entry, no_node, node, nodes_of, room_at}
pub use Rattle.cdf_format.specs.IndexRules.{end_of, index_rows, is_block, leaf_rows}
pub use Rattle.cdf_format.specs.IndexWalk.{Met, lost, met, nodes_met}
pub use Rattle.cdf_format.specs.Owners.{owned_records, unused_records}
pub use Rattle.cdf_format.specs.Phases.{all_phases, format_phases, image_phases, phase10}
pub use Rattle.cdf_format.specs.RecordTypes.{adr_type, agr_edr_type, az_edr_type, cdr_type, cpr_type, cvvr_type, fixed_size, gdr_type, r_vdr_type, uir_type, vvr_type, vxr_type, z_vdr_type}
pub use Rattle.cdf_format.specs.Records.{Field, adr_agr_edr_head, adr_az_edr_head, adr_name, adr_ngr_entries, adr_nz_entries, gdr_adr_head, gdr_r_num_dims, gdr_r_vdr_head, gdr_uir_head, gdr_z_vdr_head, vdr_vxr_head}
pub use Rattle.cdf_format.specs.Rules.{AllHold, Hold, IsBroken, Row, asked, row}
pub use Rattle.cdf_format.specs.Sealed.{has_checksum, image_of, sealed, trailer, trailer_length}
pub use Rattle.cdf_format.specs.Shape.{AttributeShape, Each, HasEntries, HasShape, HasVariable, Shape, VariableShape, adr_chain, adrs, attribute_shape, cpr_of, is_compressed, r_vdr_chain, shape, uir_chain, variable_shape, variables, vdrs, z_vdr_chain}
pub use Rattle.cdf_format.specs.Sound.{IsSound}
pub use Rattle.cdf_format.specs.Tiles.{AreTiles, Distinct, In, tiles, tiling}
pub use Rattle.cdf_format.specs.VariableFields.{number_before}
pub use Rattle.cdf_format.specs.VariableRules.{cpr_link, is_cpr, variable_rows}
pub use Rattle.cdf_format.specs.Walks.{Walk, records_of, stuck, whole}
pub use Rattle.cdf_format.specs.WellFormed.{Good, KeepsFormat, WellFormed}
pub use Rattle.md5.specs.Md5.{md5}
