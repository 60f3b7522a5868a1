use Rattle.std.proofs.Common.{◌∙◌}
use Rattle.cdf_index.proofs.OneVariable.{one_of}
use Rattle.cdf_packed_deletes.proofs.OpenOn.{both_opened, first_room, open_onward, open_rle, open_room, open_size, open_vdr}
use Rattle.cdf_packed_deletes.proofs.opening.open_some.Goals as goal

pub open_at-requires-clause-room : goal.open_at-requires-clause-room
open_at-requires-clause-room g c =
    let one = one_of (g.A.Area.image c.args.area.now) c.args.vdr c.requires.vdr in
    first_room c.requires.good one.among one.vdr_is c.requires.packed c.requires.size c.requires.order c.requires.room c.requires.limit

pub open_at-requires-in-None-clause-good : goal.open_at-requires-in-None-clause-good
open_at-requires-in-None-clause-good g c =
    let one = one_of (g.A.Area.image c.args.area.now) c.args.vdr c.requires.vdr in
    (open_onward c.requires.good one.among one.vdr_is c.requires.packed c.requires.size c.requires.order c.requires.room c.requires.limit c.in_ok-front.front (c.in_ok-front.ensures.opened one.kind one.before one.own one.after one.among one.vdr_is) c.in-None.is).good

pub open_at-requires-in-None-clause-vdr : goal.open_at-requires-in-None-clause-vdr
open_at-requires-in-None-clause-vdr g c =
    let one = one_of (g.A.Area.image c.args.area.now) c.args.vdr c.requires.vdr in
    open_vdr (open_onward c.requires.good one.among one.vdr_is c.requires.packed c.requires.size c.requires.order c.requires.room c.requires.limit c.in_ok-front.front (c.in_ok-front.ensures.opened one.kind one.before one.own one.after one.among one.vdr_is) c.in-None.is) one.vdr_is

pub open_at-requires-in-None-clause-packed : goal.open_at-requires-in-None-clause-packed
open_at-requires-in-None-clause-packed g c =
    let one = one_of (g.A.Area.image c.args.area.now) c.args.vdr c.requires.vdr in
    open_rle (open_onward c.requires.good one.among one.vdr_is c.requires.packed c.requires.size c.requires.order c.requires.room c.requires.limit c.in_ok-front.front (c.in_ok-front.ensures.opened one.kind one.before one.own one.after one.among one.vdr_is) c.in-None.is) one.vdr_is

pub open_at-requires-in-None-clause-size : goal.open_at-requires-in-None-clause-size
open_at-requires-in-None-clause-size g c =
    let one = one_of (g.A.Area.image c.args.area.now) c.args.vdr c.requires.vdr in
    open_size (open_onward c.requires.good one.among one.vdr_is c.requires.packed c.requires.size c.requires.order c.requires.room c.requires.limit c.in_ok-front.front (c.in_ok-front.ensures.opened one.kind one.before one.own one.after one.among one.vdr_is) c.in-None.is) one.vdr_is c.requires.size

pub open_at-requires-in-None-clause-room : goal.open_at-requires-in-None-clause-room
open_at-requires-in-None-clause-room g c =
    let one = one_of (g.A.Area.image c.args.area.now) c.args.vdr c.requires.vdr in
    rw c.in_ok-front.ensures.area.frame (open_room (open_onward c.requires.good one.among one.vdr_is c.requires.packed c.requires.size c.requires.order c.requires.room c.requires.limit c.in_ok-front.front (c.in_ok-front.ensures.opened one.kind one.before one.own one.after one.among one.vdr_is) c.in-None.is) one.vdr_is)

pub open_at-requires-in-None-clause-short : goal.open_at-requires-in-None-clause-short
open_at-requires-in-None-clause-short g c =
    let one = one_of (g.A.Area.image c.args.area.now) c.args.vdr c.requires.vdr in
    (open_onward c.requires.good one.among one.vdr_is c.requires.packed c.requires.size c.requires.order c.requires.room c.requires.limit c.in_ok-front.front (c.in_ok-front.ensures.opened one.kind one.before one.own one.after one.among one.vdr_is) c.in-None.is).short

pub returns-in-Some-clause-opened : goal.returns-in-Some-clause-opened
returns-in-Some-clause-opened g c = λ kind before own after among is. both_opened c.requires.good among is c.requires.packed c.requires.size c.requires.order c.requires.room c.requires.limit c.in_ok-front.front (c.in_ok-front.ensures.opened kind before own after among is) c.in-Some.later c.in-Some.is

pub returns-in_ok-open_at-in-None-clause-opened : goal.returns-in_ok-open_at-in-None-clause-opened
returns-in_ok-open_at-in-None-clause-opened g c = λ kind before own after among is.
    (let m = open_onward c.requires.good among is c.requires.packed c.requires.size c.requires.order c.requires.room c.requires.limit c.in_ok-front.front (c.in_ok-front.ensures.opened kind before own after among is) c.in-None.is in
    m.done c.in_ok-open_at-in-None.field-0 (c.in_ok-open_at-in-None.ensures.opened kind before m.own' after m.among (m.vdr_is ∙ is)))
