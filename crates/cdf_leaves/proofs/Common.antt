-- The names that most proofs of this crate cite, passed on from one place. Declares nothing.
pub use Rattle.cdf_area.proofs.Calls.{edit_done, edit_failed, edit_once, keeps_by_read}
pub use Rattle.cdf_area.specs.Calls.{Edits}
pub use Rattle.cdf_area.specs.Frame.{Frame}
pub use Rattle.cdf_edits.proofs.Common.{bytes_eq, nil_from_length, AreTiles, Changed, Distinct, Distinct-back, Each, Each-append, Each-split, Entries, HasVariable, In, In-append, In-append_right, IsSound, Leaf, NodeFits, Nodes, SaysEntry, SaysNode, Touch, VariableShape, block, either, gdr_offset, image_limit, is_in-true, is_linkable, le-leb, link_to, linkable-from, linkable-in, linkable-long, linkable-type, lower, lt-leb, map-append, nat_tests, next_of, no_entry, no_node, node, number, number_kept, record_number_limit, room_at, size_at, size_kept, tile_lies, touch, type_at, type_kept, type_of_body, unwrap_or, variables, vxr_type, with_field}
pub use Rattle.cdf_edits.proofs.Edits.ActsThen.{each_in}
pub use Rattle.cdf_edits.proofs.Edits.Common.{Each-map, distinct_if, each, fits, has, typed}
pub use Rattle.cdf_edits.proofs.Edits.RecordGrown.{Grew, grew, grew_none, grew_then, kept_then, stands, unlike}
pub use Rattle.cdf_edits.proofs.Edits.StandsAmong.{name_room}
pub use Rattle.cdf_edits.proofs.Frame.ChangedBytes.{changed_then}
pub use Rattle.cdf_edits.proofs.Frame.LinksStay.{nodes_kept, tiles_same}
unfoldable pub use Rattle.cdf_edits.specs.Commands.Room.{widest, widest_below}
pub use Rattle.cdf_edits.specs.Index.Written.{EntryIs, UnusedEntries, last_node, top_chain, was_unused}
pub use Rattle.cdf_edits.specs.Space.Placing.{IsBody, Placed}
pub use Rattle.cdf_format.proofs.GoodSound.{good_eof, good_is_sound}
pub use Rattle.cdf_index.proofs.ByLeaf.{in_nodes_with_leaf, node_stays, nodes_with_leaf}
pub use Rattle.cdf_index.proofs.Coming.{Comes, comes, comes_along, comes_below, comes_first, comes_here}
pub use Rattle.cdf_index.proofs.Common.{places_of, Edit, entry_count, length-append, length-map, length-le_from_distinct, length_tiles, linkable_kept, with_entry, Chained, StillSays, rules, eq-eqb, ne_eqb, vdr_vxr_head, vdr_vxr_tail, Begins, Begun, Bool, Field, Good, HasIndex, Inserted, IsAmong, IsNode, Keeps, Kept, Kind, List, MayName, NodeInside, NodeWritten, Owed, R, SameHeads, Some, StandsAmong, Stays, StepSays, StillSays, Takes, Widened, Z, [], ap, apart, ap₂, arith, cases_eq, cases_lt, content, drop, edit_more, eof, eqb, eqb-true, false, first_at, gdr_type, good_by_its_shape, in-times, index_at, inl, inr, leaf, leb, length, long, ltb, map, max, nodes_stand, on_ok_weaker, placed, read_more, read_once, redone, refl, rules, shape, some_place, sound, step_pair, subst, suc, sym, tile, times, times-once, true, type_in, uir_type, used_count, variables_chain, vdrs, vvr_type, vxr_bytes, vxr_n_used_entries, vxr_vxr_next, widen_all, widened, wider, with_block, with_both, with_new, zero, ℕ, ◌*◌, ◌++◌, ◌+◌, ◌-◌, ◌<◌, ◌^◌, ◌∙◌, ◌∷◌, ◌≡◌, ◌≢◌, ◌≤◌, ◌⊎◌}
unfoldable pub use Rattle.cdf_index.proofs.Common.{spot, HasNodes, Names, entry_leaves, leaves_of, lower_nodes, new_room, nodes_of, redo, redo_below, way, with_leaf}
pub use Rattle.cdf_index.proofs.FieldSet.{FieldSet, changed_again, changed_wider, counts, entries_beside, field_set, node_head, room_beside, size_beside}
pub use Rattle.cdf_index.proofs.Inserting.{front_stays, nothing_changed, room_stays, used_stays}
pub use Rattle.cdf_index.proofs.Leading.{begins_by}
pub use Rattle.cdf_index.proofs.NodeFilled.{fills, node_short}
pub use Rattle.cdf_index.proofs.OneNode.{SameNode, entry_past, same_node}
pub use Rattle.cdf_index.proofs.FromReached.{StartsAt, leaf_rest, rest_among, rest_has, rest_last, rest_once, starts_at}
pub use Rattle.cdf_index.proofs.Measured.{seven_at_least}
pub use Rattle.cdf_index.proofs.OneVariable.{one_of}
pub use Rattle.cdf_index.specs.Starting.{IsStart, from_reached}
pub use Rattle.cdf_index.proofs.WayDown.{apart_by, below_once, below_times, made, no_zero, way_lies}
pub use Rattle.cdf_index.proofs.TreeTouched.{Touched, touched}
pub use Rattle.cdf_index.specs.Adding.{AddsLeaf, Counts, IndexTouch, LeafAdded, NodeTaken, TailGoesOn, leaf_acts}
pub use Rattle.cdf_index.specs.Writing.{SaysUnused}
pub use Rattle.cdf_index.specs.declared.descending.Spot.{Spot}
pub use Rattle.cdf_index.specs.declared.descending.Step.{Step}
pub use Rattle.cdf_index.specs.declared.descending.Way.{Way}
pub use Rattle.cdf_index.specs.declared.entries.Entry.{Entry}
pub use Rattle.cdf_leaves.specs.Added.{Added, IsBlockType, IsWay, MayAdd, PutAlong, entry}
pub use Rattle.cdf_leaves.specs.Putting.{ChainMade, EntryPut, IndexStarted, MayPut, NodeMade, SplitMade}
pub use Rattle.cdf_leaves.specs.Tail.{EndsIn, HasEnd, IsEnd, TailSet}
pub use Rattle.cdf_leaves.specs.Widening.{StepStands, WayStands, WidenedAlong}
pub use Rattle.std.proofs.Common.{slice_index_or}
pub use Rattle.std.specs.Result.{OnOk}
