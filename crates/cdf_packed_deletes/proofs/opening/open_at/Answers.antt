use Rattle.std.proofs.Common.{None, refl}
use Rattle.cdf_index.proofs.OneVariable.{one_of}
use Rattle.cdf_packed_deletes.proofs.OpenEdge.{has_open, open_of, opened_none, opened_some}
use Rattle.cdf_packed_deletes.proofs.opening.open_at.Goals as goal

pub open_parts-requires-clause-kept : goal.open_parts-requires-clause-kept
open_parts-requires-clause-kept g c =
    let one = one_of (g.A.Area.image c.args.area.now) c.args.vdr c.requires.vdr in
    let split = c.in_ok-split.ensures.split one.kind one.before one.own one.after one.among one.vdr_is in
    rw (c.in_ok-split.ensures.area.image, c.in_ok-split.ensures.area.frame) (has_open c.requires.good one.among one.vdr_is c.requires.packed c.requires.size c.requires.order c.requires.edge c.requires.room c.in_ok-split.split split c.in-Some.found c.in-Some.is)

pub returns-in_ok-later-in-Some-clause-opened : goal.returns-in_ok-later-in-Some-clause-opened
returns-in_ok-later-in-Some-clause-opened g c = λ kind before own after among is.
    (let f = rw (c.in_ok-split.ensures.area.image, c.in_ok-split.ensures.area.frame) at c.in_ok-later-in-Some.ensures.parts in
    let split = c.in_ok-split.ensures.split kind before own after among is in
    let of = open_of c.requires.good among is c.requires.packed c.requires.size c.requires.order c.requires.edge c.requires.room c.in_ok-split.split split c.in-Some.found c.in-Some.is in
    opened_some c.requires.good among is c.requires.packed c.requires.size c.requires.order c.requires.edge c.requires.room c.in_ok-split.split split c.in-Some.found c.in-Some.is c.in_ok-later-in-Some.later (f kind before own after of))

pub returns-in-None-clause-opened : goal.returns-in-None-clause-opened
returns-in-None-clause-opened g c = λ kind before own after among is. opened_none own c.in_ok-split.split (c.in_ok-split.ensures.split kind before own after among is) c.in-None.is c.in_ok-split.ensures.area.image None refl
