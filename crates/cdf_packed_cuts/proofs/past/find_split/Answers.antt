use Rattle.std.proofs.Common.{arith, ◌∙◌}
use Rattle.cdf_index.proofs.OneVariable.{one_of}
use Rattle.cdf_cuts.proofs.CutCalls.{head_lies, index_is}
use Rattle.cdf_packed_cuts.proofs.SplitFound.{found_here, none_before, none_has, none_with, one_with}
use Rattle.cdf_packed_cuts.proofs.past.find_split.Goals as goal

pub returns-then-first-eq0-clause-split : goal.returns-then-first-eq0-clause-split
returns-then-first-eq0-clause-split g c = λ kind before own after among is. none_before c.requires.good among c.if-first-eq0.true

pub overflow_add-vdr : goal.overflow_add-vdr
overflow_add-vdr g c = let one = one_of (g.A.Area.image c.args.area.now) c.args.vdr c.requires.vdr in omega (arith, head_lies _ c.requires.good one.among one.vdr_is, c.requires.short)

pub read_unsigned8-requires : goal.read_unsigned8-requires
read_unsigned8-requires g c = let one = one_of (g.A.Area.image c.args.area.now) c.args.vdr c.requires.vdr in omega (arith, head_lies _ c.requires.good one.among one.vdr_is)

pub begin-requires-clause-index : goal.begin-requires-clause-index
begin-requires-clause-index g c =
    let one = one_of (g.A.Area.image c.args.area.now) c.args.vdr c.requires.vdr in
    rw (c.in_ok-head.ensures.area.image, c.in_ok-head.ensures.value) (index_is _ c.requires.good one.among one.vdr_is).0

pub returns-in_default-clause-split : goal.returns-in_default-clause-split
returns-in_default-clause-split g c = λ kind before own after among is.
    (let f = found_here c.requires.good among c.args.first is (c.in_ok-search.ensures.area.image ∙ c.in_ok-head.ensures.area.image) (c.in_ok-search.ensures.head ∙ c.in_ok-head.ensures.value) c.in_ok-search.ensures.rec c.in_default.is c.in_ok-found.ensures.found in
    none_has c.requires.good among (omega (arith, c.if-first-eq0.false)) f)

pub returns-then-found-first-clause-split : goal.returns-then-found-first-clause-split
returns-then-found-first-clause-split g c = λ kind before own after among is.
    (let f = found_here c.requires.good among c.args.first is (c.in_ok-search.ensures.area.image ∙ c.in_ok-head.ensures.area.image) (c.in_ok-search.ensures.head ∙ c.in_ok-head.ensures.value) c.in_ok-search.ensures.rec c.in-Some.is c.in_ok-found.ensures.found in
    none_with c.requires.good among c.in-Some.found f (omega (arith, c.if-first-eq0.false)) c.if-found-first.true)

pub returns-clause-split : goal.returns-clause-split
returns-clause-split g c = λ kind before own after among is.
    (let f = found_here c.requires.good among c.args.first is (c.in_ok-search.ensures.area.image ∙ c.in_ok-head.ensures.area.image) (c.in_ok-search.ensures.head ∙ c.in_ok-head.ensures.value) c.in_ok-search.ensures.rec c.in-Some.is c.in_ok-found.ensures.found in
    one_with c.requires.good among c.in-Some.found f (omega (arith, c.if-first-eq0.false)) (omega (arith, c.if-found-first.false)))
