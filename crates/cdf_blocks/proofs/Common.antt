-- The names that most proofs of this crate cite, passed on from one place. Declares nothing.
pub use Rattle.cdf_edits.specs.Index.Grown.{with_block}
unfoldable pub use Rattle.cdf_edits.specs.Index.Grown.{with_place, with_place_in}
unfoldable pub use Rattle.cdf_blocks.specs.Shortened.{with_range, with_range_in}
pub use Rattle.cdf_index.proofs.Common.{Ascending, Bool, Distinct, Distinct-back, Distinct-front, Each, Each-append, Each-split, Edit, Entries, In, In-append, In-append_left, In-append_right, IsNode, IsOneOf, Leaf, List, Nodes, SayEntries, SaysEntry, [], ap, ap₂, append_assoc, arith, block, cases_eq, each_of, entry_count, eq-eqb, eqb, false, if◌then◌else◌, in-times, inl, inr, is_linkable, length, link_to, lower, map, map-append, nat_tests, ne_eqb, no_entry, no_node, node, of_each, past_entries, places_of, record_number_limit, refl, room_at, subst, suc, sym, times, times-append, times-in, times-none, times-once, top_chain, true, used_count, vxr_type, zero, ℕ, ◌*◌, ◌++◌, ◌+◌, ◌-◌, ◌<◌, ◌==◌, ◌∙◌, ◌∷◌, ◌≡◌, ◌≢◌, ◌≤◌, ◌⊎◌}
unfoldable pub use Rattle.cdf_index.proofs.Common.{AreInOrder, HasNodes, InOrder, Names, entry_leaves, leaves_of, lower_nodes, nodes_of, redo, redo_below}
pub use Rattle.cdf_index.proofs.ByParts.{entries_by, entries_from, entries_within, nodes_by, nodes_from, nodes_within}
