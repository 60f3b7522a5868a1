use Rattle.std.proofs.Common.{arith, sym, ◌∙◌}
use Rattle.cdf_index.proofs.OneVariable.{one_of}
use Rattle.cdf_packed_deletes.proofs.KeptOn.{both_done, end_past, first_room, onward, rle_on, room_on, size_on, vdr_on}
use Rattle.cdf_packed_deletes.proofs.closing.keep_some.Goals as goal

pub keep_at-requires-clause-room : goal.keep_at-requires-clause-room
keep_at-requires-clause-room g c =
    let one = one_of (g.A.Area.image c.args.area.now) c.args.vdr c.requires.vdr in
    first_room c.requires.good one.among one.vdr_is c.requires.packed c.requires.size c.requires.order c.requires.room c.requires.limit

pub keep_at-requires-in-None-clause-good : goal.keep_at-requires-in-None-clause-good
keep_at-requires-in-None-clause-good g c =
    let one = one_of (g.A.Area.image c.args.area.now) c.args.vdr c.requires.vdr in
    (onward c.requires.good one.among one.vdr_is c.requires.packed c.requires.size c.requires.order c.requires.room c.requires.limit c.in_ok-front.front (c.in_ok-front.ensures.kept one.kind one.before one.own one.after one.among one.vdr_is) (sym c.later_end-end.ensures ∙ c.in-None.is)).good

pub keep_at-requires-in-None-clause-vdr : goal.keep_at-requires-in-None-clause-vdr
keep_at-requires-in-None-clause-vdr g c =
    let one = one_of (g.A.Area.image c.args.area.now) c.args.vdr c.requires.vdr in
    vdr_on (onward c.requires.good one.among one.vdr_is c.requires.packed c.requires.size c.requires.order c.requires.room c.requires.limit c.in_ok-front.front (c.in_ok-front.ensures.kept one.kind one.before one.own one.after one.among one.vdr_is) (sym c.later_end-end.ensures ∙ c.in-None.is)) one.vdr_is

pub keep_at-requires-in-None-clause-packed : goal.keep_at-requires-in-None-clause-packed
keep_at-requires-in-None-clause-packed g c =
    let one = one_of (g.A.Area.image c.args.area.now) c.args.vdr c.requires.vdr in
    rle_on (onward c.requires.good one.among one.vdr_is c.requires.packed c.requires.size c.requires.order c.requires.room c.requires.limit c.in_ok-front.front (c.in_ok-front.ensures.kept one.kind one.before one.own one.after one.among one.vdr_is) (sym c.later_end-end.ensures ∙ c.in-None.is)) one.vdr_is

pub keep_at-requires-in-None-clause-size : goal.keep_at-requires-in-None-clause-size
keep_at-requires-in-None-clause-size g c =
    let one = one_of (g.A.Area.image c.args.area.now) c.args.vdr c.requires.vdr in
    size_on (onward c.requires.good one.among one.vdr_is c.requires.packed c.requires.size c.requires.order c.requires.room c.requires.limit c.in_ok-front.front (c.in_ok-front.ensures.kept one.kind one.before one.own one.after one.among one.vdr_is) (sym c.later_end-end.ensures ∙ c.in-None.is)) one.vdr_is c.requires.size

pub keep_at-requires-in-None-clause-room : goal.keep_at-requires-in-None-clause-room
keep_at-requires-in-None-clause-room g c =
    let one = one_of (g.A.Area.image c.args.area.now) c.args.vdr c.requires.vdr in
    rw c.in_ok-front.ensures.area.frame (room_on (onward c.requires.good one.among one.vdr_is c.requires.packed c.requires.size c.requires.order c.requires.room c.requires.limit c.in_ok-front.front (c.in_ok-front.ensures.kept one.kind one.before one.own one.after one.among one.vdr_is) (sym c.later_end-end.ensures ∙ c.in-None.is)) one.vdr_is)

pub keep_at-requires-in-None-clause-short : goal.keep_at-requires-in-None-clause-short
keep_at-requires-in-None-clause-short g c =
    let one = one_of (g.A.Area.image c.args.area.now) c.args.vdr c.requires.vdr in
    (onward c.requires.good one.among one.vdr_is c.requires.packed c.requires.size c.requires.order c.requires.room c.requires.limit c.in_ok-front.front (c.in_ok-front.ensures.kept one.kind one.before one.own one.after one.among one.vdr_is) (sym c.later_end-end.ensures ∙ c.in-None.is)).short

pub returns-in-Some-clause-kept : goal.returns-in-Some-clause-kept
returns-in-Some-clause-kept g c = λ kind before own after among is. (both_done c.requires.good among is c.requires.packed c.requires.size c.requires.order c.requires.room c.requires.limit c.in_ok-front.front (c.in_ok-front.ensures.kept kind before own after among is) c.in-Some.end (sym c.later_end-end.ensures ∙ c.in-Some.is)).0

pub returns-in-Some-clause-upto : goal.returns-in-Some-clause-upto
returns-in-Some-clause-upto g c =
    let one = one_of (g.A.Area.image c.args.area.now) c.args.vdr c.requires.vdr in
    let small = (both_done c.requires.good one.among one.vdr_is c.requires.packed c.requires.size c.requires.order c.requires.room c.requires.limit c.in_ok-front.front (c.in_ok-front.ensures.kept one.kind one.before one.own one.after one.among one.vdr_is) c.in-Some.end (sym c.later_end-end.ensures ∙ c.in-Some.is)).1 in
    let past = end_past c.args.last c.in_ok-front.front c.in-Some.end (sym c.later_end-end.ensures ∙ c.in-Some.is) in
    omega (arith, small, past)

pub returns-in_ok-keep_at-in-None-clause-kept : goal.returns-in_ok-keep_at-in-None-clause-kept
returns-in_ok-keep_at-in-None-clause-kept g c = λ kind before own after among is.
    (let m = onward c.requires.good among is c.requires.packed c.requires.size c.requires.order c.requires.room c.requires.limit c.in_ok-front.front (c.in_ok-front.ensures.kept kind before own after among is) (sym c.later_end-end.ensures ∙ c.in-None.is) in
    m.done c.in_ok-keep_at-in-None.field-0 (c.in_ok-keep_at-in-None.ensures.kept kind before m.own' after m.among (m.vdr_is ∙ is)))
