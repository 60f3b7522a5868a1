use Rattle.cdf_cuts.proofs.Common.{arith, on_ok_weaker, refl, subst, sym, ◌∙◌}
use Rattle.cdf_edits.proofs.Common.{Good}
use Rattle.cdf_index.proofs.LeavesAscend.{leaves_ascend}
use Rattle.cdf_index.proofs.OneVariable.{one_of}
use Rattle.cdf_cuts.proofs.CutCalls as by
use Rattle.cdf_sparse.proofs.OpenCalls.{found_some, found_there, join_room, open_joined, open_none}
use Rattle.cdf_sparse.proofs.opening.open_records.Goals as goal

pub overflow_add-vdr : goal.overflow_add-vdr
overflow_add-vdr g c = let one = one_of (g.A.Area.image c.args.area.now) c.args.vdr c.requires.vdr in omega (arith, by.head_lies _ c.requires.good one.among one.vdr_is, c.requires.room, c.requires.limit)

pub read_unsigned8-requires : goal.read_unsigned8-requires
read_unsigned8-requires g c = let one = one_of (g.A.Area.image c.args.area.now) c.args.vdr c.requires.vdr in omega (arith, by.head_lies _ c.requires.good one.among one.vdr_is)

pub find_later-requires-clause-index : goal.find_later-requires-clause-index
find_later-requires-clause-index g c =
    let one = one_of (g.A.Area.image c.args.area.now) c.args.vdr c.requires.vdr in
    rw (c.in_ok-head.ensures.area.image, c.in_ok-head.ensures.value) (by.index_is _ c.requires.good one.among one.vdr_is).0

pub find_later-requires-clause-order : goal.find_later-requires-clause-order
find_later-requires-clause-order g c =
    let one = one_of (g.A.Area.image c.args.area.now) c.args.vdr c.requires.vdr in
    rw (c.in_ok-head.ensures.area.image, c.in_ok-head.ensures.value) (leaves_ascend 0 2147483646 _ (by.index_is _ c.requires.good one.among one.vdr_is).0.order (omega arith))

-- the first call of cut_index stands where no leaf was found, the second one behind the test of the leaf
pub cut_index-requires-clause-good : goal.cut_index-requires-clause-good
cut_index-requires-clause-good g c = subst Good (sym (c.in_ok-later.ensures.area.image ∙ c.in_ok-head.ensures.area.image)) c.requires.good

pub cut_index-requires-2-clause-good : goal.cut_index-requires-2-clause-good
cut_index-requires-2-clause-good g c = subst Good (sym (c.in_ok-later.ensures.area.image ∙ c.in_ok-head.ensures.area.image)) c.requires.good

-- to divide a leaf: what is asked of the image that was read is what is asked of the first one
pub divide_leaf-requires-clause-good : goal.divide_leaf-requires-clause-good
divide_leaf-requires-clause-good g c = subst Good (sym (c.in_ok-later.ensures.area.image ∙ c.in_ok-head.ensures.area.image)) c.requires.good

pub divide_leaf-requires-clause-leaf : goal.divide_leaf-requires-clause-leaf
divide_leaf-requires-clause-leaf g c =
    let same = c.in_ok-later.ensures.area.image ∙ c.in_ok-head.ensures.area.image in
    rw (same) (found_some c.args.vdr c.args.last c.in_ok-later.later c.in-Some.leaf c.in-Some.is c.in_ok-head.ensures.area.image c.in_ok-head.ensures.value c.in_ok-later.ensures.later)

pub divide_leaf-requires-clause-unpacked : goal.divide_leaf-requires-clause-unpacked
divide_leaf-requires-clause-unpacked g c = rw (c.in_ok-later.ensures.area.image, c.in_ok-head.ensures.area.image) c.requires.unpacked

pub join_later-requires-clause-room : goal.join_later-requires-clause-room
join_later-requires-clause-room g c =
    let one = one_of (g.A.Area.image c.args.area.now) c.args.vdr c.requires.vdr in
    let same = c.in_ok-later.ensures.area.image ∙ c.in_ok-head.ensures.area.image in
    let found = found_there c.args.vdr c.args.last c.in_ok-later.later c.in_ok-head.ensures.area.image c.in_ok-head.ensures.value c.in_ok-later.ensures.later in
    let cut = rw same at c.in_ok-cut_index.ensures.cut in
    join_room c.requires.good one.among one.vdr_is c.requires.unpacked c.args.last found c.requires.size c.requires.order (omega (arith, c.requires.room, c.requires.limit)) (cut _ _ _ _ one.among one.vdr_is) c.in-Some.leaf c.in-Some.is

-- the last return, behind join_later
pub returns-clause-opened : goal.returns-clause-opened
returns-clause-opened g c =
    on_ok_weaker c.join_later.result (λ joins kind before own after among is.
    (let same = c.in_ok-later.ensures.area.image ∙ c.in_ok-head.ensures.area.image in
    let found = found_there c.args.vdr c.args.last c.in_ok-later.later c.in_ok-head.ensures.area.image c.in_ok-head.ensures.value c.in_ok-later.ensures.later in
    let cut = rw same at c.in_ok-cut_index.ensures.cut in
    open_joined c.requires.good among is c.requires.unpacked c.args.last found c.requires.size c.requires.order (omega (arith, c.requires.room, c.requires.limit)) (cut kind before own after among is) c.in-Some.leaf c.in-Some.is (omega arith) joins)) c.join_later.ensures.joins

-- where no leaf was found, cut_index is the last call
pub returns-in_default-clause-opened : goal.returns-in_default-clause-opened
returns-in_default-clause-opened g c =
    on_ok_weaker c.cut_index.result (λ given kind before own after among is.
    (let same = c.in_ok-later.ensures.area.image ∙ c.in_ok-head.ensures.area.image in
    let found = found_there c.args.vdr c.args.last c.in_ok-later.later c.in_ok-head.ensures.area.image c.in_ok-head.ensures.value c.in_ok-later.ensures.later in
    let cut = rw same at given in
    open_none c.requires.good among is c.requires.unpacked c.args.last found c.requires.size c.requires.order (omega (arith, c.requires.room, c.requires.limit)) (cut kind before own after among is) c.in_default.is refl)) c.cut_index.ensures.cut
