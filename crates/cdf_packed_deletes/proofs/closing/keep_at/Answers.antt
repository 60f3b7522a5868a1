use Rattle.cdf_index.proofs.OneVariable.{one_of}
use Rattle.cdf_packed_deletes.proofs.KeptEdge.{has_kept, kept_none, kept_of, kept_some}
use Rattle.cdf_packed_deletes.proofs.closing.keep_at.Goals as goal

pub keep_parts-requires-clause-kept : goal.keep_parts-requires-clause-kept
keep_parts-requires-clause-kept g c =
    let one = one_of (g.A.Area.image c.args.area.now) c.args.vdr c.requires.vdr in
    let split = c.in_ok-split.ensures.split one.kind one.before one.own one.after one.among one.vdr_is in
    rw (c.in_ok-split.ensures.area.image, c.in_ok-split.ensures.area.frame) (has_kept c.requires.good one.among one.vdr_is c.requires.packed c.requires.size c.requires.order c.requires.edge c.requires.room c.in_ok-split.split split c.in-Some.found c.in-Some.is)

pub returns-in_ok-keep_parts-in-Some-clause-kept : goal.returns-in_ok-keep_parts-in-Some-clause-kept
returns-in_ok-keep_parts-in-Some-clause-kept g c = λ kind before own after among is.
    (let f = rw (c.in_ok-split.ensures.area.image, c.in_ok-split.ensures.area.frame) at c.in_ok-keep_parts-in-Some.ensures.parts in
    let split = c.in_ok-split.ensures.split kind before own after among is in
    let of = kept_of c.requires.good among is c.requires.packed c.requires.size c.requires.order c.requires.edge c.requires.room c.in_ok-split.split split c.in-Some.found c.in-Some.is in
    kept_some c.requires.good among is c.requires.packed c.requires.size c.requires.order c.requires.edge c.requires.room c.in_ok-split.split split c.in-Some.found c.in-Some.is (f kind before own after of))

pub returns-in-None-clause-kept : goal.returns-in-None-clause-kept
returns-in-None-clause-kept g c = λ kind before own after among is. kept_none own c.in_ok-split.split (c.in_ok-split.ensures.split kind before own after among is) c.in-None.is c.in_ok-split.ensures.area.image
