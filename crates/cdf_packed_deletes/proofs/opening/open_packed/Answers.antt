use Rattle.std.proofs.Common.{arith, ◌∙◌}
use Rattle.cdf_index.proofs.OneVariable.{one_of}
use Rattle.cdf_cuts.proofs.Common.{on_ok_weaker}
use Rattle.cdf_packed_deletes.proofs.OpenDone.{all_opened, all_whole, has_there, later_there}
use Rattle.cdf_packed_deletes.proofs.OpenWhole.{vdr_opened, whole_so}
use Rattle.cdf_packed_deletes.proofs.opening.open_packed.Goals as goal
use Rattle.cdf_packed_deletes.specs.OpenKeeping.{opened_up}

pub open_some-requires-clause-room : goal.open_some-requires-clause-room
open_some-requires-clause-room g c = omega (arith, c.requires.room)

pub open_whole-requires-clause-good : goal.open_whole-requires-clause-good
open_whole-requires-clause-good g c =
    let one = one_of (g.A.Area.image c.args.area.now) c.args.vdr c.requires.vdr in
    (c.in_ok-later.ensures.opened one.kind one.before one.own one.after one.among one.vdr_is).good

pub open_whole-requires-clause-vdr : goal.open_whole-requires-clause-vdr
open_whole-requires-clause-vdr g c =
    let one = one_of (g.A.Area.image c.args.area.now) c.args.vdr c.requires.vdr in
    vdr_opened (c.in_ok-later.ensures.opened one.kind one.before one.own one.after one.among one.vdr_is) one.vdr_is

pub open_whole-requires-clause-whole : goal.open_whole-requires-clause-whole
open_whole-requires-clause-whole g c =
    let one = one_of (g.A.Area.image c.args.area.now) c.args.vdr c.requires.vdr in
    whole_so (c.in_ok-later.ensures.opened one.kind one.before one.own one.after one.among one.vdr_is) one.vdr_is

pub open_whole-requires-clause-short : goal.open_whole-requires-clause-short
open_whole-requires-clause-short g c =
    let one = one_of (g.A.Area.image c.args.area.now) c.args.vdr c.requires.vdr in
    (c.in_ok-later.ensures.opened one.kind one.before one.own one.after one.among one.vdr_is).small

pub add_later-requires-clause-later : goal.add_later-requires-clause-later
add_later-requires-clause-later g c =
    let one = one_of (g.A.Area.image c.args.area.now) c.args.vdr c.requires.vdr in
    let k = c.in_ok-later.ensures.opened one.kind one.before one.own one.after one.among one.vdr_is in
    let w = c.in_ok-open_whole.ensures.opened one.kind one.before k.kept.own one.after k.among (k.vdr_is ∙ one.vdr_is) in
    rw (c.in_ok-open_whole.ensures.area.frame, c.in_ok-later.ensures.area.frame) (has_there c.requires.good one.among one.vdr_is c.requires.order c.requires.size c.requires.room c.requires.limit c.in_ok-later.later k w c.in-Some.later c.in-Some.is c.requires.packed)

pub returns-in-Some-clause-opened : goal.returns-in-Some-clause-opened
returns-in-Some-clause-opened g c = on_ok_weaker c.add_later.result (λ adds kind before own after among is.
    (let k = c.in_ok-later.ensures.opened kind before own after among is in
    let w = c.in_ok-open_whole.ensures.opened kind before k.kept.own after k.among (k.vdr_is ∙ is) in
    let there = (later_there c.requires.good among is c.requires.order c.requires.size c.requires.room c.requires.limit c.in_ok-later.later k w c.in-Some.later c.in-Some.is c.requires.packed) in
    let added = rw (c.in_ok-open_whole.ensures.area.frame, c.in_ok-later.ensures.area.frame) at adds in
    all_opened c.requires.good among is c.requires.order c.requires.size c.requires.room c.requires.limit c.in_ok-later.later k w c.in-Some.later c.in-Some.is (added kind before (opened_up k.kept.own c.args.first c.args.last) after there))) c.add_later.ensures.added

pub returns-in-None-clause-opened : goal.returns-in-None-clause-opened
returns-in-None-clause-opened g c = λ kind before own after among is.
    (let k = c.in_ok-later.ensures.opened kind before own after among is in
    let w = c.in_ok-open_whole.ensures.opened kind before k.kept.own after k.among (k.vdr_is ∙ is) in
    all_whole c.requires.good among is c.requires.order c.requires.size c.requires.room c.requires.limit c.in_ok-later.later k w c.in-None.is)
