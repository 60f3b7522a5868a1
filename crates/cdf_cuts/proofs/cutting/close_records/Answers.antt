use Rattle.cdf_cuts.proofs.Common.{arith, on_ok_weaker, refl, subst, sym, ◌∙◌}
use Rattle.cdf_edits.proofs.Common.{Good}
use Rattle.cdf_index.proofs.LeavesAscend.{leaves_ascend}
use Rattle.cdf_index.proofs.OneVariable.{one_of}
use Rattle.cdf_cuts.proofs.CloseCalls.{closed_none, closed_some, room_there}
use Rattle.cdf_cuts.proofs.CutCalls as by
use Rattle.cdf_cuts.proofs.cutting.close_records.Goals as goal

pub overflow_add-vdr : goal.overflow_add-vdr
overflow_add-vdr g c = let one = one_of (g.A.Area.image c.args.area.now) c.args.vdr c.requires.vdr in omega (arith, by.head_lies _ c.requires.good one.among one.vdr_is, c.requires.short)

pub read_unsigned8-requires : goal.read_unsigned8-requires
read_unsigned8-requires g c = let one = one_of (g.A.Area.image c.args.area.now) c.args.vdr c.requires.vdr in omega (arith, by.head_lies _ c.requires.good one.among one.vdr_is)

pub find_later-requires-clause-index : goal.find_later-requires-clause-index
find_later-requires-clause-index g c =
    let one = one_of (g.A.Area.image c.args.area.now) c.args.vdr c.requires.vdr in
    rw (c.in_ok-head.ensures.area.image, c.in_ok-head.ensures.value) (by.index_is _ c.requires.good one.among one.vdr_is).0

pub find_later-requires-clause-order : goal.find_later-requires-clause-order
find_later-requires-clause-order g c =
    let one = one_of (g.A.Area.image c.args.area.now) c.args.vdr c.requires.vdr in
    rw (c.in_ok-head.ensures.area.image, c.in_ok-head.ensures.value) (leaves_ascend 0 2147483646 _ (by.index_is _ c.requires.good one.among one.vdr_is).0.order (omega arith))

pub cut_index-requires-clause-good : goal.cut_index-requires-clause-good
cut_index-requires-clause-good g c = subst Good (sym (c.in_ok-later.ensures.area.image ∙ c.in_ok-head.ensures.area.image)) c.requires.good

pub join_later-requires-clause-room : goal.join_later-requires-clause-room
join_later-requires-clause-room g c =
    let one = one_of (g.A.Area.image c.args.area.now) c.args.vdr c.requires.vdr in
    let same = c.in_ok-later.ensures.area.image ∙ c.in_ok-head.ensures.area.image in
    let cut = rw same at c.in_ok-cut_index.ensures.cut in
    room_there c.requires.good one.among one.vdr_is c.in_ok-head.ensures.area.image c.in_ok-head.ensures.value c.args.last c.in_ok-later.ensures.later c.requires.size c.requires.order c.requires.short (cut _ _ _ _ one.among one.vdr_is) c.requires.unpacked c.in-Some.leaf c.in-Some.is

pub returns-in-Some-clause-closed : goal.returns-in-Some-clause-closed
returns-in-Some-clause-closed g c =
    on_ok_weaker c.join_later.result (λ joins kind before own after among is.
    (let same = c.in_ok-later.ensures.area.image ∙ c.in_ok-head.ensures.area.image in
    let cut = rw same at c.in_ok-cut_index.ensures.cut in
    closed_some c.requires.good among is c.in_ok-head.ensures.area.image c.in_ok-head.ensures.value c.args.last c.in_ok-later.ensures.later c.requires.size c.requires.order c.requires.short (cut kind before own after among is) c.requires.unpacked c.in-Some.leaf c.in-Some.is joins)) c.join_later.ensures.joins

pub returns-in-None-clause-closed : goal.returns-in-None-clause-closed
returns-in-None-clause-closed g c = λ kind before own after among is.
    (let same = c.in_ok-later.ensures.area.image ∙ c.in_ok-head.ensures.area.image in
    let cut = rw same at c.in_ok-cut_index.ensures.cut in
    closed_none c.requires.good among is c.in_ok-head.ensures.area.image c.in_ok-head.ensures.value c.args.last c.in_ok-later.ensures.later c.requires.size c.requires.order c.requires.short (cut kind before own after among is) c.requires.unpacked c.in-None.is refl)
