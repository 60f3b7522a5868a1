-- The names that most proofs of this crate cite, passed on from one place. Declares nothing.
pub use Rattle.cdf_area.proofs.Calls.{read_done, read_failed, read_more, read_once}
pub use Rattle.cdf_area.specs.Calls.{Stays}
pub use Rattle.cdf_format.proofs.ChainsLemmas.{chain_sound, is_a-in, is_a-type, linkable-in, linkable-long, linkable-type}
pub use Rattle.cdf_format.proofs.Members.{either, is_in-false, is_in-true, true-is_in}
pub use Rattle.cdf_format.proofs.RowLemmas.{Hold-append, Hold-member, Hold-split, IsBroken-after, IsBroken-before}
pub use Rattle.cdf_format.proofs.TilesLemmas.{tile_lies}
pub use Rattle.cdf_format.specs.ChainRules.{link_rows, number_rows}
pub use Rattle.cdf_format.specs.Chains.{chain, is_a, is_in, is_linkable, next_of}
unfoldable pub use Rattle.cdf_format.specs.Chains.{chain_on}
pub use Rattle.cdf_format.specs.Fields.{number, size_at, type_at, with_sign, word}
pub use Rattle.cdf_format.specs.Index.{Entries, Leaf, Nodes, block, first_at, last_at, lower, no_entry, no_node, node, nodes_of, offset_at, room_at, used_count}
unfoldable pub use Rattle.cdf_format.specs.Index.{entry_leaves, leaves_of}
pub use Rattle.cdf_format.specs.IndexRules.{end_of, has_room, is_between, is_block, leaf_rows, met_rows, phase8}
unfoldable pub use Rattle.cdf_format.specs.IndexRules.{nodes_rows, used_rows}
pub use Rattle.cdf_format.specs.IndexWalk.{Met, and_then, lost, met, nodes_met}
unfoldable pub use Rattle.cdf_format.specs.IndexWalk.{entries_on, levels_on, nodes_on}
pub use Rattle.cdf_format.specs.Owners.{times, variable_records}
pub use Rattle.cdf_format.specs.Phases.{owner_rows}
pub use Rattle.cdf_format.specs.RecordRules.{phase4, record_rows}
pub use Rattle.cdf_format.specs.RecordTypes.{cvvr_type, fixed_size, uir_type, vxr_type}
pub use Rattle.cdf_format.specs.Records.{Field, field, vdr_vxr_head}
pub use Rattle.cdf_format.specs.Rules.{Hold, IsBroken, Row, row}
pub use Rattle.cdf_format.specs.Shape.{cpr_of, index_of, is_compressed, variable_shape}
pub use Rattle.cdf_format.specs.Tiles.{AreTiles, In, is_tile, tiling}
unfoldable pub use Rattle.cdf_format.specs.Tiles.{tiles_from}
pub use Rattle.cdf_format.specs.VariableFields.{number_before, record_bytes}
pub use Rattle.cdf_format.specs.VariableRules.{phase7, variable_rows}
pub use Rattle.cdf_format.specs.Walks.{Walk, after_first, stuck, whole}
pub use Rattle.cdf_model.specs.Limits.{record_number_limit}
pub use Rattle.cdf_structure.specs.FileChains.{AreLong, member_rows, unused_rows, walk_of}
pub use Rattle.cdf_structure.specs.Findings.{Finds, Yields}
pub use Rattle.cdf_structure.specs.Indexes.{EndsAt, Enters, FindsMore, IsEntryAt, MeetsIndex, WalksEntries, WalksIndex, WalksNodes, block_in, block_of, block_rows, cpr_at, cpr_records, index_records}
pub use Rattle.cdf_structure.specs.Known.{IsRight, IsRightOf, KnowsIndexes}
pub use Rattle.cdf_structure.specs.Met.{Agrees, Ascends}
pub use Rattle.cdf_structure.specs.Records.{AreRecords, AreSorted, WalksTiles, head_rows, unused_of}
pub use Rattle.cdf_structure.specs.Owners.{IsFor, IsToldOf, KnowsOwned, Marks}
pub use Rattle.cdf_structure.specs.Rooms.{Fits, HasRoom, HaveRoom, IsBoth}
pub use Rattle.cdf_structure.specs.Walked.{Climbs, Meets, SizesTile, StandsAt}
pub use Rattle.cdf_structure.specs.declared.finding.Finding.{Finding}
pub use Rattle.cdf_structure.specs.declared.index_walk.Block.{Block}
pub use Rattle.cdf_structure.specs.declared.index_walk.Index.{Index}
pub use Rattle.cdf_structure.specs.declared.indexes.Indexed.{Indexed}
pub use Rattle.cdf_structure.specs.declared.owners.Owners.{Owners}
pub use Rattle.cdf_structure.specs.declared.room.Room.{Room}
pub use Rattle.std.proofs.Common.{Bool, Err, FitsSigned, List, None, Ok, Option, Some, [], add-one, ap, append-nil, append_assoc, arith, cond, drop, eq-eqb, eqb, false, get_or, get_or-set_other, get_or-set_same, inl, inr, is_eq, leb, length, length-set, map, min, nat_cmp, negsuc, not, pos, refl, replicate, rules, set, slice_index, subst, suc, sym, take, true, true≢false, w64, zero, ℕ, ℤ, ◌&&◌, ◌*◌, ◌++◌, ◌+◌, ◌-◌, ◌/◌, ◌<◌, ◌||◌, ◌∙◌, ◌∷◌, ◌≡◌, ◌≢◌, ◌≤◌, ◌⊎◌}
pub use Rattle.std.proofs.lemmas.Bool.{and_parts, cases_lt, eqb-true, leb-true, ne_eqb}
pub use Rattle.std.proofs.lemmas.Bool.Decides.{nat_tests}
pub use Rattle.std.proofs.lemmas.Grind.{flat_map-append, take_at_read}
pub use Rattle.std.proofs.lemmas.Int.{ints, to_z-of_z}
pub use Rattle.std.proofs.lemmas.List.{get_or-map, get_or-replicate, length-map, length-replicate, map-append, take_all, take_more}
pub use Rattle.std.proofs.lemmas.List.Sorted.{searched}
pub use Rattle.std.specs.List.{flat_map}
pub use Rattle.std.specs.Option.{option_or}
pub use Rattle.std.specs.Prelude.{is_some, slice_get, ◌==◌}
