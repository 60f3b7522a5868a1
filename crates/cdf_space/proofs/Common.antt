-- The names that most proofs of this crate cite, passed on from one place. Declares nothing.
pub use Rattle.cdf_area.proofs.Calls.{edit_more, read_done, read_failed, read_more, read_once}
pub use Rattle.cdf_area.specs.Calls.{Keeps, Stays}
pub use Rattle.cdf_base.specs.Bytes.{put}
pub use Rattle.cdf_edits.proofs.Commands.ListParts.{got_in, last_got}
pub use Rattle.cdf_edits.proofs.Edits.ChainsOfShape.{IsOf, append_changed, has_chain, joined_chain, may_join, members_are, remove_changed, replaced_chain}
pub use Rattle.cdf_edits.proofs.Edits.RecordFrame.{chain_clear, field_clear, part_clear}
pub use Rattle.cdf_edits.proofs.Edits.StepEdits.{append_edit, fixed_long, remove_edit}
pub use Rattle.cdf_edits.proofs.Frame.ChangedBytes.{changed_more, changed_part, changed_put, changed_then}
pub use Rattle.cdf_edits.proofs.Space.ChainHeads.{cdr_room, cdr_stands, count_field, end_of, gdr_field, head_fits, head_lies, head_width, holder_stands, long_of, member_lies, tiled}
pub use Rattle.cdf_edits.proofs.Space.TakenFromList.{distinct_apart, distinct_with, distinct_without, leads_rest, link_after, link_wide, member_split}
pub use Rattle.cdf_edits.proofs.Space.UsedRecords.{apart}
pub use Rattle.cdf_edits.specs.Edits.Edit.{Edit}
pub use Rattle.cdf_edits.specs.Edits.Marks.{Mark, append_marks, avoided, field_marks, removing_marks, replacing_marks, taking_marks, whole}
pub use Rattle.cdf_edits.specs.Frame.Changed.{Changed, Misses, Outside, Touch, touch, touched_field}
pub use Rattle.cdf_edits.specs.Frame.Links.{AllSpare, ChainHead, IsHead, chain_head, end_place, with_members}
pub use Rattle.cdf_edits.specs.Space.Chains.{Appended, HasChain, HolderStands, MayJoin, Removed, Replaced, before, count_of, counted_in, head_of, holder_of, holder_type, link_behind, members_of, type_in, with_in_place, without}
pub use Rattle.cdf_edits.specs.Space.Freeing.{AllGiven, AreFree}
pub use Rattle.cdf_edits.specs.Space.Giving.{IsGiven}
pub use Rattle.cdf_edits.specs.Space.Placement.{Takes, first_back_link, fits, with_space}
pub use Rattle.cdf_edits.specs.Space.Placing.{Fills, IsBody, Placed, type_of_body}
pub use Rattle.cdf_edits.specs.Space.Taking.{EndBytes, FirstBack, IsTaken, NoneFit, RestBytes, TakenBytes, last_of, link_field, link_tile, prev_of, touched_by}
pub use Rattle.cdf_edits.specs.declared.chain.Chain.{Chain}
pub use Rattle.cdf_edits.specs.declared.chain.Chain.TheVariants.{Attrs, GrEntries, RVars, ZEntries, ZVars}
pub use Rattle.cdf_fields.proofs.Writes.{field_reads, length-with_field, other_bytes, other_words}
pub use Rattle.cdf_format.proofs.BytesLemmas.{byte-put_inside, length-put, word-same, word_kept}
pub use Rattle.cdf_format.proofs.ChainsLemmas.{chain_complete, is_a-from, is_a-in, is_a-type, linkable-from, linkable-in, linkable-long, linkable-type, some_place}
pub use Rattle.cdf_format.proofs.Members.{Distinct-back, In-append, In-append_left, In-append_right, either, false-is_in, is_in-true, length-le_from_distinct, true-is_in}
pub use Rattle.cdf_format.proofs.ShapeLemmas.{shape_is, tiles_are}
pub use Rattle.cdf_format.proofs.TilesLemmas.{length_tiles, tile_lies, tiles_end, tiles_lie_apart, tiling_complete}
pub use Rattle.cdf_format.specs.Bytes.{Same, byte}
pub use Rattle.cdf_format.specs.Chains.{IsChain, Leads, is_a, is_in, is_linkable, linked_types, next_field, next_of}
pub use Rattle.cdf_format.specs.Content.{content}
pub use Rattle.cdf_format.specs.Fields.{LiesIn, eof, gdr_offset, number, size_at, type_at, with_field, word}
pub use Rattle.cdf_format.specs.Owners.{bytes_in, owned_records, space_of, times, unused_records}
pub use Rattle.cdf_format.specs.RecordTypes.{cdr_type, fixed_size, gdr_type, is_record_type, uir_type}
pub use Rattle.cdf_format.specs.Records.{Field, cdr_gdr_offset, field, gdr_eof, gdr_uir_head, record_size, record_type, uir_next_uir, uir_prev_uir}
pub use Rattle.cdf_format.specs.Shape.{HasShape, Shape, shape}
pub use Rattle.cdf_format.specs.Sound.{IsSound}
pub use Rattle.cdf_format.specs.Tiles.{AreTiles, Distinct, In, tiles}
pub use Rattle.cdf_space.specs.Fits.{Cleared, IsFirstFit, Listed, Relinked, back_link}
pub use Rattle.cdf_space.specs.Steps.{link_place}
pub use Rattle.cdf_space.specs.Tallies.{Tallies}
pub use Rattle.cdf_space.specs.declared.placing.Fit.{Fit}
pub use Rattle.std.proofs.Common.{Bool, Err, List, None, Ok, OnOk, Option, Result, Some, [], ap, append-nil, append_assoc, ap₂, arith, drop, eq-eqb, eqb, false, get_or, inl, inr, leb, length, refl, replicate, rules, subst, suc, sym, take, true, zero, ℕ, ◌*◌, ◌++◌, ◌+◌, ◌-◌, ◌<◌, ◌^◌, ◌||◌, ◌∙◌, ◌∷◌, ◌≡◌, ◌≢◌, ◌≤◌, ◌⊎◌}
pub use Rattle.std.proofs.lemmas.Bool.{cases_eq, cases_lt, eqb-true, leb-true}
pub use Rattle.std.proofs.lemmas.List.{at_drop_all, at_drop_more, get_or-append_right, get_or-replicate, length-append, length-replicate, take-replicate}
pub use Rattle.std.proofs.lemmas.Result.{on_ok_weaker}
pub use Rattle.std.specs.List.{filter, last_or}
pub use Rattle.std.specs.Prelude.{IfOk, MatchOption, ◌==◌}
