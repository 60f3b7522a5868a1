-- The names that most proofs of this crate cite, passed on from one place. Declares nothing.
pub use Rattle.cdf_area.specs.OldBytes.{AllLieBelow, LiesBelow, Old}
unfoldable pub use Rattle.cdf_area.specs.OldBytes.{back}
pub use Rattle.cdf_base.proofs.Puts.{byte-put_after, byte-put_before, byte-put_inside, length-put, put_more, put_own, take-put}
unfoldable pub use Rattle.cdf_base.specs.Bytes.{put}
pub use Rattle.cdf_pages.specs.Grown.{Grown, Owned, RemovesSome}
unfoldable pub use Rattle.cdf_pages.specs.Grown.{removed}
pub use Rattle.cdf_pages.specs.Growth.{Grows, HasBehind, HasTailBehind, HoldsGrown, pages_to}
pub use Rattle.cdf_pages.specs.Pages.{AllServe, Backed, Covers, Serves, Shows, TakesAtMost, byte_from, byte_of, is_in, part_from, part_upto, was}
unfoldable pub use Rattle.cdf_pages.specs.Pages.{image_of, listed}
pub use Rattle.cdf_pages.specs.Saving.{Differs, FailsSaving, HasNothingToSave, HasSaveCause, Holds, HoldsBetween, IsBetween, IsChangedRange, IsSavedAlready, LiesIn, Touches, tail_bytes}
pub use Rattle.cdf_pages.specs.Table.{pages_before}
pub use Rattle.cdf_pages.specs.Standing.{Changes, ChangesSome, IsPageOf, ReadsSome, page_cost, pages_in, to_front, used, without}
unfoldable pub use Rattle.cdf_pages.specs.Standing.{cost_of_reading, cost_of_writing, used_from, without_from}
unfoldable pub use Rattle.cdf_pages.specs.Table.{page_at, pages_held}
pub use Rattle.cdf_store.proofs.Joined.{length-written}
pub use Rattle.cdf_store.specs.Disk.{Disk, IsWhole, WrittenPart, cut, file_in, file_of, files_with, written}
pub use Rattle.cdf_store.specs.Reading.{Counts, ReadsAt, ReadsPiece}
pub use Rattle.lru.proofs.CallerLemmas.{Contains-lookup_entry, Contains-promoted, Contains-put_entries}
pub use Rattle.lru.proofs.Pairs.{lookup-lookup_entry, promoted_absent, promoted_put}
pub use Rattle.lru.specs.LruCache.{IsValid, LruCache, lru_cache, promoted, put_entries}
pub use Rattle.std.proofs.Common.{Bool, List, None, OnOk, Option, Some, [], ap, append-nil, append_assoc, ap₂, arith, cond, drop, false, get_or, inl, inr, length, length-append, max, min, nat_eq, option_copied, refl, replicate, rules, slice_get, slice_index, subst, suc, sym, take, true, zero, ℕ, ◌%◌, ◌*◌, ◌++◌, ◌+◌, ◌-◌, ◌/◌, ◌<◌, ◌∙◌, ◌∷◌, ◌≡◌, ◌≢◌, ◌≤◌, ◌⊎◌}
pub use Rattle.std.proofs.lemmas.Bool.{cases_Bool, cases_lt, eq-eqb, eqb-true}
pub use Rattle.std.proofs.lemmas.List.{drop-drop, drop_all, get_or-append_right, get_or-drop, get_or-set_other, get_or-set_same, get_or-take, get_or_append_left, get_or_default, get_or_past, length-drop, length-replicate, length-take, length-take-le, replicate-append-replicate, same_lists, take-append-drop, take-append-le, take-take, take_all, take_at}
pub use Rattle.std.proofs.lemmas.List.Elements.{All-append, All-cons, All-head, All-nil, All-push, All-tail, All-weaker}
pub use Rattle.std.proofs.lemmas.Option.{none-some, same_Some}
pub use Rattle.std.specs.BTreeMap.{get}
pub use Rattle.std.specs.List.{All, IsDistinct, list_any}
pub use Rattle.std.specs.Map.{keys_of, lookup, lookup_entry, remove_entry}
pub use Rattle.std.specs.Option.{is_some, option_map, option_map_or}
pub use Rattle.std.specs.Ordering.{nat_cmp}
pub use Rattle.std.specs.Prelude.{Err, IfNone, IfOk, IfSome, IsErrOf, IsSome, IsTrue, Ok, OnErr, bytes_eq, if◌then◌else◌, not, slice_set, ◌==◌, ◌||◌}
pub use Rattle.std.specs.declared.result.Result.{Result}
