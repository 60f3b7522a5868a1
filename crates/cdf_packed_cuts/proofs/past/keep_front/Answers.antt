use Rattle.cdf_index.proofs.OneVariable.{one_of}
use Rattle.cdf_cuts.proofs.Common.{on_ok_weaker}
use Rattle.cdf_packed_cuts.proofs.SplitCalls.{has_split, kept_none, kept_some, split_of}
use Rattle.cdf_packed_cuts.proofs.past.keep_front.Goals as goal

pub shorten_leaf-requires-clause-split : goal.shorten_leaf-requires-clause-split
shorten_leaf-requires-clause-split g c =
    let one = one_of (g.A.Area.image c.args.area.now) c.args.vdr c.requires.vdr in
    let split = c.in_ok-split.ensures.split one.kind one.before one.own one.after one.among one.vdr_is in
    rw (c.in_ok-split.ensures.area.image, c.in_ok-split.ensures.area.frame) (has_split c.requires.good one.among one.vdr_is c.requires.packed c.requires.size c.requires.room c.in_ok-split.split split c.in-Some.found c.in-Some.is)

pub returns-in-Some-clause-front : goal.returns-in-Some-clause-front
returns-in-Some-clause-front g c =
    let f = rw (c.in_ok-split.ensures.area.image, c.in_ok-split.ensures.area.frame) at c.shorten_leaf.ensures.front in
    on_ok_weaker c.shorten_leaf.result (λ front kind before own after among is.
    (let split = c.in_ok-split.ensures.split kind before own after among is in
    let of = split_of c.requires.good among is c.requires.packed c.requires.size c.requires.room c.in_ok-split.split split c.in-Some.found c.in-Some.is in
    kept_some c.requires.good among is c.requires.packed c.requires.size c.requires.room c.in_ok-split.split split c.in-Some.found c.in-Some.is (front kind before own after of))) f

pub returns-in-None-clause-front : goal.returns-in-None-clause-front
returns-in-None-clause-front g c = λ kind before own after among is. kept_none c.in_ok-split.split (c.in_ok-split.ensures.split kind before own after among is) c.in-None.is c.in_ok-split.ensures.area.image
