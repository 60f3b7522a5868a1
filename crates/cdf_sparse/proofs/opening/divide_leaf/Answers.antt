use Rattle.cdf_cuts.proofs.Common.{arith, on_ok_weaker, refl, subst, sym}
use Rattle.cdf_edits.proofs.Common.{Good}
use Rattle.cdf_index.proofs.OneVariable.{one_of}
use Rattle.cdf_puts.proofs.PutSpot.{body_is}
use Rattle.cdf_sparse.proofs.OpenCalls.{block_there, open_divided, part_good, part_room, part_vdr}
use Rattle.cdf_sparse.proofs.opening.divide_leaf.Goals as goal

pub later_body-requires-clause-room : goal.later_body-requires-clause-room
later_body-requires-clause-room g c =
    let one = one_of (g.A.Area.image c.args.area.now) c.args.vdr c.requires.vdr in
    block_there c.requires.good one.among one.vdr_is c.requires.unpacked c.args.last c.requires.leaf c.requires.size c.args.leaf.now refl

pub cut_index-requires-clause-good : goal.cut_index-requires-clause-good
cut_index-requires-clause-good g c = subst Good (sym c.in_ok-body.ensures.area.image) c.requires.good

pub add_part-requires-clause-good : goal.add_part-requires-clause-good
add_part-requires-clause-good g c =
    let one = one_of (g.A.Area.image c.args.area.now) c.args.vdr c.requires.vdr in
    let cut = rw (c.in_ok-body.ensures.area.image) at c.in_ok-cut_index.ensures.cut in
    part_good c.requires.good one.among one.vdr_is c.requires.unpacked c.args.last c.requires.leaf c.requires.size c.requires.order c.args.leaf.now refl c.requires.begins c.requires.room c.requires.limit (omega (arith, c.requires.room, c.requires.limit)) (cut _ _ _ _ one.among one.vdr_is) c.in_ok-body.ensures.body

pub add_part-requires-clause-vdr : goal.add_part-requires-clause-vdr
add_part-requires-clause-vdr g c =
    let one = one_of (g.A.Area.image c.args.area.now) c.args.vdr c.requires.vdr in
    let cut = rw (c.in_ok-body.ensures.area.image) at c.in_ok-cut_index.ensures.cut in
    part_vdr c.requires.good one.among one.vdr_is c.requires.unpacked c.args.last c.requires.leaf c.requires.size c.requires.order c.args.leaf.now refl c.requires.begins c.requires.room c.requires.limit (omega (arith, c.requires.room, c.requires.limit)) (cut _ _ _ _ one.among one.vdr_is) c.in_ok-body.ensures.body

pub add_part-requires-clause-room : goal.add_part-requires-clause-room
add_part-requires-clause-room g c =
    let one = one_of (g.A.Area.image c.args.area.now) c.args.vdr c.requires.vdr in
    let cut = rw (c.in_ok-body.ensures.area.image) at c.in_ok-cut_index.ensures.cut in
    let says = rw (← c.deref.ensures.value) at c.in_ok-body.ensures.body in
    rw (c.in_ok-cut_index.ensures.area.frame, c.in_ok-body.ensures.area.frame) (part_room c.requires.good one.among one.vdr_is c.requires.unpacked c.args.last c.requires.leaf c.requires.size c.requires.order c.args.leaf.now refl c.requires.begins c.requires.room c.requires.limit (omega (arith, c.requires.room, c.requires.limit)) (cut _ _ _ _ one.among one.vdr_is) says)

pub returns-clause-opened : goal.returns-clause-opened
returns-clause-opened g c =
    on_ok_weaker c.add_part.result (λ adds kind before own after among is.
    (let cut = rw (c.in_ok-body.ensures.area.image) at c.in_ok-cut_index.ensures.cut in
    let says = rw (← c.deref.ensures.value) at c.in_ok-body.ensures.body in
    open_divided c.requires.good among is c.requires.unpacked c.args.last c.requires.leaf c.requires.size c.requires.order c.args.leaf.now refl c.requires.begins c.requires.room c.requires.limit (omega (arith, c.requires.room, c.requires.limit)) (cut kind before own after among is) says adds)) c.add_part.ensures.added

pub add_part-requires-clause-body : goal.add_part-requires-clause-body
add_part-requires-clause-body g c = body_is _ _ (rw (← c.deref.ensures.value) at c.in_ok-body.ensures.body)
