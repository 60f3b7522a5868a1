-- The names that most proofs of this crate cite, passed on from one place. Declares nothing.
pub use Rattle.cdf_area.proofs.Calls.{edit_more, edits_by_read, edits_by_write, read_failed, read_more, read_once, read_without_memory}
pub use Rattle.cdf_area.specs.Calls.{Keeps, Stays}
pub use Rattle.cdf_index.proofs.Common.{AreTiles, Bool, Each, Entries, HasIndex, In, IsBlock, IsNode, IsOrderly, Leaf, List, NodeFits, NodeInside, Nodes, None, Option, Range, SayEntries, SaysEntry, SaysNode, SomeChain, SomeNode, Some, Stands, [], ap, append-nil, append_assoc, arith, block, cases_eq, entry_count, eqb, false, first_at, flat_map, if◌then◌else◌, index_at, inl, inr, last_at, length, length-append, link_to, linkable-in, linkable-type, lower, map, nat_tests, ne_eqb, next_of, no_entry, no_node, node, offset_at, on_ok_weaker, range, refl, room_at, rules, subst, suc, sym, tiles, true, type_at, used_count, vxr_type, zero, ℕ, ◌++◌, ◌+◌, ◌-◌, ◌<◌, ◌∙◌, ◌∷◌, ◌≡◌, ◌≢◌, ◌≤◌, ◌⊎◌}
unfoldable pub use Rattle.cdf_index.proofs.Common.{HasNodes, Names, entry_leaves, leaves_of, lower_nodes, nodes_of}
unfoldable pub use Rattle.cdf_cuts.specs.Planning.{cut_words, found_in, plan_below, plan_of, stands_in, whole_in}
pub use Rattle.cdf_cuts.specs.Planning.{Does, Doing, Rewrite, block_words, dropped, ended, found_after, kept_by, last_word, link_if, lower_words, node_told, release, released, discard, discarded, freed_of, relink, relinked, rewrite, rewrite_one, rewritten, stands_after, step, whole_after, words}
pub use Rattle.cdf_cuts.specs.declared.planning.Left.{Left}
pub use Rattle.cdf_cuts.specs.declared.planning.NodeCut.{NodeCut}
pub use Rattle.cdf_cuts.specs.declared.planning.NodeLink.{NodeLink}
pub use Rattle.cdf_cuts.specs.declared.planning.Plan.{Plan}
pub use Rattle.cdf_cuts.specs.declared.planning.Span.{Span}
pub use Rattle.std.specs.List.{last_or, slice_get}
pub use Rattle.std.specs.Option.{option_map, unwrap_or}
pub use Rattle.cdf_index.proofs.Common.{Each-split, In-append, In-append_left, In-append_right, SameHeads, cvvr_type, entry_in, is_linkable, linkable_kept, map-append, places_of, ◌==◌}
pub use Rattle.cdf_edits.proofs.Frame.LinksStay.{linkable_same}
pub use Rattle.cdf_cuts.specs.Done.{Done, NodeSays}
pub use Rattle.cdf_index.proofs.Common.{Changed, Distinct, Each-append, Each-map, EntriesWritten, Kept, StillSays, Touch, image_limit, number, size_at, tile_lies, touch, vxr_n_used_entries, with_field}
pub use Rattle.cdf_cuts.specs.Writing.{MayRewrite, NodeRewritten, Rewritten, Stood, UnusedStay, rewrite_places, rewrite_touches}
pub use Rattle.cdf_index.specs.Writing.{node_from}
pub use Rattle.std.specs.Prelude.{get_or}
pub use Rattle.cdf_index.proofs.Common.{times, times-append}
pub use Rattle.cdf_cuts.specs.Writing.{Linked, MayRelink, Relinked, link_places, link_touches}
pub use Rattle.cdf_edits.specs.Frame.Changed.{touched_field}
pub use Rattle.cdf_index.proofs.Common.{next_kept, vxr_vxr_next, ◌^◌}
pub use Rattle.cdf_index.proofs.FieldSet.{FieldSet, counts, entries_beside, field_set, room_beside, size_beside}
pub use Rattle.cdf_index.proofs.TreeTouched.{Touched, touched}
pub use Rattle.cdf_edits.proofs.Common.{linkable-long}
pub use Rattle.cdf_index.proofs.Common.{past_entries}
pub use Rattle.cdf_index.specs.declared.entries.Entry.{Entry}
pub use Rattle.cdf_index.proofs.Common.{cases_lt, eqb-true, le-ltb, lt-ltb, eq-eqb, nat_lt, ◌*◌, of_z-to_z, true≢false}
pub use Rattle.cdf_index.proofs.Common.{length-map}
pub use Rattle.cdf_cuts.proofs.Flat.{flat_map-append, seam}
