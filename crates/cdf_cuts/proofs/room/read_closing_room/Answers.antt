use Rattle.cdf_cuts.proofs.Common.{List, ap, arith, index_at, sym, ℕ, ◌∙◌}
use Rattle.cdf_edits.specs.Commands.Room.{widest}
use Rattle.cdf_index.proofs.OneVariable.{one_of}
use Rattle.cdf_index.specs.declared.measuring.IndexSize.{IndexSize}
use Rattle.cdf_cuts.proofs.CutCalls as by
use Rattle.cdf_cuts.proofs.RoomRead.{room_read, small}
use Rattle.cdf_cuts.proofs.room.read_closing_room.Goals as goal

pub overflow_add-vdr : goal.overflow_add-vdr
overflow_add-vdr g c = let one = one_of (g.A.Area.image c.args.area.now) c.args.vdr c.requires.vdr in omega (arith, by.head_lies _ c.requires.good one.among one.vdr_is, c.requires.short)

pub read_unsigned8-requires : goal.read_unsigned8-requires
read_unsigned8-requires g c = let one = one_of (g.A.Area.image c.args.area.now) c.args.vdr c.requires.vdr in omega (arith, by.head_lies _ c.requires.good one.among one.vdr_is)

pub index_size-requires-clause-index : goal.index_size-requires-clause-index
index_size-requires-clause-index g c =
    let one = one_of (g.A.Area.image c.args.area.now) c.args.vdr c.requires.vdr in
    rw (c.in_ok-head.ensures.area.image, c.in_ok-head.ensures.value) (by.index_is _ c.requires.good one.among one.vdr_is).0

pub find_leaf-requires-clause-index : goal.find_leaf-requires-clause-index
find_leaf-requires-clause-index g c =
    let one = one_of (g.A.Area.image c.args.area.now) c.args.vdr c.requires.vdr in
    rw (c.in_ok-size.ensures.area.image, c.in_ok-head.ensures.area.image, c.in_ok-head.ensures.value) (by.index_is _ c.requires.good one.among one.vdr_is).0

pub find_leaf-requires-2-clause-index : goal.find_leaf-requires-2-clause-index
find_leaf-requires-2-clause-index g c =
    let one = one_of (g.A.Area.image c.args.area.now) c.args.vdr c.requires.vdr in
    rw (c.in_ok-front.ensures.area.image, c.in_ok-size.ensures.area.image, c.in_ok-head.ensures.area.image, c.in_ok-head.ensures.value) (by.index_is _ c.requires.good one.among one.vdr_is).0

pub room_in_front-requires : goal.room_in_front-requires
room_in_front-requires g c =
    let one = one_of (g.A.Area.image c.args.area.now) c.args.vdr c.requires.vdr in
    let same = c.in_ok-size.ensures.area.image ∙ c.in_ok-head.ensures.area.image in
    small c.requires.good one.among one.vdr_is same c.in_ok-head.ensures.value c.requires.size c.requires.short c.args.first c.in_ok-front.front c.in_ok-front.ensures.value

pub room_behind-requires : goal.room_behind-requires
room_behind-requires g c =
    let one = one_of (g.A.Area.image c.args.area.now) c.args.vdr c.requires.vdr in
    let same = c.in_ok-front.ensures.area.image ∙ c.in_ok-size.ensures.area.image ∙ c.in_ok-head.ensures.area.image in
    small c.requires.good one.among one.vdr_is same c.in_ok-head.ensures.value c.requires.size c.requires.short c.args.last c.in_ok-back.back c.in_ok-back.ensures.value

pub returns-clause-room : goal.returns-clause-room
returns-clause-room g c kind before own after among is free =
    let same = c.in_ok-size.ensures.area.image ∙ c.in_ok-head.ensures.area.image in
    let wide = c.from.ensures ∙ ap (λ (s : IndexSize). s.widest) c.in_ok-size.ensures.value ∙ ap (λ (x : List ℕ). widest (index_at x c.in_ok-head.head)) (sym c.in_ok-size.ensures.area.image) in
    let back = rw c.in_ok-front.ensures.area.image at c.in_ok-back.ensures.value in
    room_read c.requires.good among is same c.in_ok-head.ensures.value c.requires.size c.in_ok-front.front c.in_ok-back.back free c.requires.order wide c.in_ok-front.ensures.value back c.room_in_front.ensures.value c.room_behind.ensures.value
