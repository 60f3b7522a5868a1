use Rattle.cdf_var_records.proofs.Common.{Good, List, ap, arith, block_count, nat_tests, packed_room, put_room, subst, sym, uncovered, variable_at, ℕ, ◌+◌, ◌∙◌, ◌≡◌}
use Rattle.cdf_area.proofs.Calls.{read_done, read_failed, read_more, read_once}
use Rattle.cdf_puts.proofs.KnownStarts.{known_there}
use Rattle.cdf_puts.specs.Starts.{IsWithin}
use Rattle.cdf_var_records.proofs.NextRecord.{vdr_there}
use Rattle.cdf_var_records.proofs.PutRoomNeeded.{blocks_there, head_lies, index_same, index_there, leaves_rise, nodes, none_expected, none_there, rewritten_there, room_within, v}
use Rattle.cdf_var_records.proofs.RecordReading.{record_size_is}
use Rattle.cdf_var_records.specs.Room.{room_in}
use Rattle.cdf_var_records.specs.declared.put_room.NewBlocks.{NewBlocks}
use Rattle.cdf_var_records.proofs.put_room.has_put_room.Given.{Over}
use Rattle.cdf_var_records.proofs.put_room.has_put_room.Goals.{After-keep_bound, In_ok-rewritten}
use Rattle.cdf_var_records.proofs.put_room.has_put_room.Goals as goal

pub overflow_add-vdr : goal.overflow_add-vdr
overflow_add-vdr g c =
    omega (arith, head_lies c.requires.good c.requires.form c.args.rec, c.size-size.ensures, c.size-size.type_inv)

pub read_unsigned8-requires : goal.read_unsigned8-requires
read_unsigned8-requires g c = let l = head_lies c.requires.good c.requires.form c.args.rec in omega arith

pub count_uncovered-requires-clause-index : goal.count_uncovered-requires-clause-index
count_uncovered-requires-clause-index g c = index_there c.requires.good c.requires.form c.args.rec c.read_unsigned8.ensures.area.image c.in_ok-head.ensures.value

pub count_uncovered-requires-clause-known : goal.count_uncovered-requires-clause-known
count_uncovered-requires-clause-known g c = rw (c.read_unsigned8.ensures.area.image, c.in_ok-head.ensures.value) c.requires.known

pub count_uncovered-requires-clause-order : goal.count_uncovered-requires-clause-order
count_uncovered-requires-clause-order g c = leaves_rise c.requires.good c.requires.form c.args.rec c.read_unsigned8.ensures.area.image c.in_ok-head.ensures.value

pub read_packed_room-requires-clause-good : goal.read_packed_room-requires-clause-good
read_packed_room-requires-clause-good g c = subst Good (sym (c.count_uncovered.ensures.area.image ∙ c.read_unsigned8.ensures.area.image)) c.requires.good

pub read_packed_room-requires-clause-index : goal.read_packed_room-requires-clause-index
read_packed_room-requires-clause-index g c = index_there c.requires.good c.requires.form c.args.rec (c.count_uncovered.ensures.area.image ∙ c.read_unsigned8.ensures.area.image) c.in_ok-head.ensures.value

pub read_packed_room-requires-clause-known : goal.read_packed_room-requires-clause-known
read_packed_room-requires-clause-known g c = rw (c.count_uncovered.ensures.area.image, c.read_unsigned8.ensures.area.image, c.in_ok-head.ensures.value) c.requires.known

pub read_packed_room-requires-clause-order : goal.read_packed_room-requires-clause-order
read_packed_room-requires-clause-order g c = leaves_rise c.requires.good c.requires.form c.args.rec (c.count_uncovered.ensures.area.image ∙ c.read_unsigned8.ensures.area.image) c.in_ok-head.ensures.value

-- how many records have no block, and what the blocks take that are rewritten
missing_is : (g : Over) (c : In_ok-rewritten g) → c.in_ok-missing.missing ≡ uncovered (v c.requires.good c.requires.form c.args.rec) (nodes c.requires.good c.requires.form c.args.rec) c.args.rec
missing_is g c = rw (c.read_unsigned8.ensures.area.image, c.in_ok-head.ensures.value) at c.in_ok-missing.ensures.count

rewritten_is : (g : Over) (c : In_ok-rewritten g) → c.in_ok-rewritten.rewritten ≡ packed_room (v c.requires.good c.requires.form c.args.rec) (nodes c.requires.good c.requires.form c.args.rec) c.args.rec
rewritten_is g c = rw (c.count_uncovered.ensures.area.image, c.read_unsigned8.ensures.area.image, c.in_ok-head.ensures.value) at c.in_ok-rewritten.ensures.room

pub returns-then-left-rewritten-clause-large : goal.returns-then-left-rewritten-clause-large
returns-then-left-rewritten-clause-large g c =
    let here = (goal.at.returns-then-left-rewritten-clause-large g c).In_ok-rewritten in
    λ e. omega (arith, c.if-left-rewritten.true, c.from-left.ensures, rewritten_is g here, rewritten_there c.requires.good c.requires.form c.args.rec c.in_ok-missing.missing (missing_is g here))

pub returns-then-missing-eq0-clause-fits : goal.returns-then-missing-eq0-clause-fits
returns-then-missing-eq0-clause-fits g c =
    let here = (goal.at.returns-then-missing-eq0-clause-fits g c).In_ok-rewritten in
    λ e. omega (arith, c.if-left-rewritten.false, c.from-left.ensures, rewritten_is g here, none_there c.requires.good c.requires.form c.args.rec c.in_ok-missing.missing (missing_is g here) c.if-missing-eq0.true)

pub returns-then-missing-eq0-clause-expects : goal.returns-then-missing-eq0-clause-expects
returns-then-missing-eq0-clause-expects g c =
    let here = (goal.at.returns-then-missing-eq0-clause-expects g c).In_ok-rewritten in
    let there = known_there c.requires.starts c.args.form.now.place.vdr c.requires.good (vdr_there c.requires.good c.requires.form.is_vdr) in
    λ e. none_expected c.requires.good c.requires.form c.args.rec c.in_ok-missing.missing (missing_is g here) c.args.starts.now there c.if-missing-eq0.true

pub read_block_count-requires-clause-good : goal.read_block_count-requires-clause-good
read_block_count-requires-clause-good g c = subst Good (sym (c.read_packed_room.ensures.area.image ∙ c.count_uncovered.ensures.area.image ∙ c.read_unsigned8.ensures.area.image)) c.requires.good

pub read_bound-requires-clause-index : goal.read_bound-requires-clause-index
read_bound-requires-clause-index g c = index_there c.requires.good c.requires.form c.args.rec (c.read_block_count.ensures.area.image ∙ c.read_packed_room.ensures.area.image ∙ c.count_uncovered.ensures.area.image ∙ c.read_unsigned8.ensures.area.image) c.in_ok-head.ensures.value

pub read_bound-requires-clause-known : goal.read_bound-requires-clause-known
read_bound-requires-clause-known g c =
    let there = c.bound_of.ensures (g.A.Area.image c.args.area.now) c.requires.good (vdr_there c.requires.good c.requires.form.is_vdr) c.requires.starts in
    rw (c.read_block_count.ensures.area.image, c.read_packed_room.ensures.area.image, c.count_uncovered.ensures.area.image, c.read_unsigned8.ensures.area.image, c.in_ok-head.ensures.value) there

-- the bound that is kept is one of the index
within : (g : Over) (c : After-keep_bound g) → IsWithin (nodes c.requires.good c.requires.form c.args.rec) c.in_ok-bound.bound
within g c =
    let read = c.read_block_count.ensures.area.image ∙ c.read_packed_room.ensures.area.image ∙ c.count_uncovered.ensures.area.image ∙ c.read_unsigned8.ensures.area.image in
    rw (index_same c.requires.good c.requires.form c.args.rec read c.in_ok-head.ensures.value) at c.in_ok-bound.ensures.within

abbrev made : (g : Over) (c : After-keep_bound g) → NewBlocks
made g c = record { count = c.in_ok-count.count; size = c.record_size_of-size.result; missing = c.in_ok-missing.missing }

-- the room of the put is that of the new blocks and of those that are rewritten
room_is : (g : Over) (c : After-keep_bound g) → put_room (v c.requires.good c.requires.form c.args.rec) (nodes c.requires.good c.requires.form c.args.rec) c.args.rec ≡ room_in (nodes c.requires.good c.requires.form c.args.rec) (made g c) + c.in_ok-rewritten.rewritten
room_is g c =
    let here = (goal.at.After-keep_bound g c).In_ok-rewritten in
    let counted = c.read_packed_room.ensures.area.image ∙ c.count_uncovered.ensures.area.image ∙ c.read_unsigned8.ensures.area.image in
    let count = c.in_ok-count.ensures.count ∙ ap (λ (x : List _). block_count (variable_at x c.args.form.now.place.vdr)) counted in
    blocks_there c.requires.good c.requires.form c.args.rec c.in_ok-missing.missing (missing_is g here) (made g c) count (c.record_size_of-size.ensures ∙ record_size_is c.requires.good c.requires.form) (λ i. c.in_ok-missing.missing)
    ∙ ap (λ (n : ℕ). room_in (nodes c.requires.good c.requires.form c.args.rec) (made g c) + n) (sym (rewritten_is g here))

pub returns-clause-fits : goal.returns-clause-fits
returns-clause-fits g c =
    let here = (goal.at.returns-clause-fits g c).After-keep_bound in
    λ e. grind (arith, nat_tests, e, room_is g here, room_within (nodes c.requires.good c.requires.form c.args.rec) (made g here) c.in_ok-bound.bound (within g here), c.room_of.ensures, c.from-left.ensures, c.if-left-rewritten.false)

pub returns-clause-large : goal.returns-clause-large
returns-clause-large g c =
    let here = (goal.at.returns-clause-large g c).After-keep_bound in
    let read = c.read_block_count.ensures.area.image ∙ c.read_packed_room.ensures.area.image ∙ c.count_uncovered.ensures.area.image ∙ c.read_unsigned8.ensures.area.image in
    let large = rw (index_same c.requires.good c.requires.form c.args.rec read c.in_ok-head.ensures.value) at c.in_ok-bound.ensures.large in
    λ e. grind (arith, nat_tests, e, room_is g here, large, c.room_of.ensures, c.from-left.ensures, c.if-left-rewritten.false)

pub returns-clause-starts : goal.returns-clause-starts
returns-clause-starts g c =
    let here = (goal.at.returns-clause-starts g c).After-keep_bound in
    c.keep_bound.ensures.known (g.A.Area.image c.args.area.now) c.requires.good (vdr_there c.requires.good c.requires.form.is_vdr) c.requires.starts (within g here)

pub returns-clause-expects : goal.returns-clause-expects
returns-clause-expects g c =
    let here = (goal.at.returns-clause-expects g c).After-keep_bound in
    let more = rw (c.read_unsigned8.ensures.area.image, c.in_ok-head.ensures.value) at c.in_ok-missing.ensures.count in
    λ e. rw (← more) (c.keep_bound.ensures.expects (nodes c.requires.good c.requires.form c.args.rec) (within g here))

pub returns-in_err-bound-clause-area : goal.returns-in_err-bound-clause-area
returns-in_err-bound-clause-area g c =
    read_failed (read_more (read_more (read_more (read_once c.in_ok-head.ensures.area) c.in_ok-missing.ensures.area) c.in_ok-rewritten.ensures.area) c.in_ok-count.ensures.area) c.in_err-bound.ensures.area c.from_residual-in_err-bound.ensures.1

pub returns-clause-area : goal.returns-clause-area
returns-clause-area g c =
    read_done (read_more (read_more (read_more (read_more (read_once c.in_ok-head.ensures.area) c.in_ok-missing.ensures.area) c.in_ok-rewritten.ensures.area) c.in_ok-count.ensures.area) c.in_ok-bound.ensures.area)

pub count_uncovered-requires-clause-lies : goal.count_uncovered-requires-clause-lies
count_uncovered-requires-clause-lies g c =
    let l = head_lies c.requires.good c.requires.form c.args.rec in
    let same = c.read_unsigned8.ensures.area.image in
    rw same (omega arith)
