use Rattle.cdf_index.proofs.Common.{Good, arith, subst, sym, ◌∙◌}
use Rattle.cdf_cuts.proofs.CutCalls as by
use Rattle.cdf_index.proofs.OneVariable.{one_of}
use Rattle.cdf_trim.proofs.TrimCalls.{each_begins, last_inside, none_goes, none_reaches, trims_end, trims_none, trims_nothing}
use Rattle.cdf_trim.proofs.trimming.trim_past.Goals as goal

pub overflow_add-vdr : goal.overflow_add-vdr
overflow_add-vdr g c = let one = one_of (g.A.Area.image c.args.area.now) c.args.vdr c.requires.vdr in omega (arith, by.head_lies _ c.requires.good one.among one.vdr_is, c.requires.short)

pub read_unsigned8-requires : goal.read_unsigned8-requires
read_unsigned8-requires g c = let one = one_of (g.A.Area.image c.args.area.now) c.args.vdr c.requires.vdr in omega (arith, by.head_lies _ c.requires.good one.among one.vdr_is)

pub find_last_entry-requires-clause-index : goal.find_last_entry-requires-clause-index
find_last_entry-requires-clause-index g c =
    let one = one_of (g.A.Area.image c.args.area.now) c.args.vdr c.requires.vdr in
    rw (c.in_ok-head.ensures.area.image, c.in_ok-head.ensures.value) (by.index_is _ c.requires.good one.among one.vdr_is).0

-- there is no block
pub returns-in_default-clause-past : goal.returns-in_default-clause-past
returns-in_default-clause-past g c kind before own after among is =
    let none = rw (c.in_default.is, c.in_ok-head.ensures.area.image, c.in_ok-head.ensures.value) at c.in_ok-last.ensures.last in
    rw (c.in_ok-last.ensures.area.image, c.in_ok-head.ensures.area.image) (trims_none c.requires.good among is c.requires.short c.requires.tidy c.args.first c.requires.unpacked none)

-- the last block ends before these records
pub returns-then-last-first-clause-past : goal.returns-then-last-first-clause-past
returns-then-last-first-clause-past g c kind before own after among is =
    let names = rw (c.in-Some.is, c.in_ok-head.ensures.area.image, c.in_ok-head.ensures.value) at c.in_ok-last.ensures.last in
    rw (c.in_ok-last.ensures.area.image, c.in_ok-head.ensures.area.image) (trims_nothing c.requires.good among is c.requires.short c.requires.tidy c.args.first c.requires.unpacked c.in-Some.last names c.if-last-first.true)

pub cut_past-requires-clause-good : goal.cut_past-requires-clause-good
cut_past-requires-clause-good g c = subst Good (sym (c.in_ok-last.ensures.area.image ∙ c.in_ok-head.ensures.area.image)) c.requires.good

pub cut_past-requires-clause-unpacked : goal.cut_past-requires-clause-unpacked
cut_past-requires-clause-unpacked g c = rw (c.in_ok-last.ensures.area.image, c.in_ok-head.ensures.area.image) c.requires.unpacked

pub returns-then-first-last-clause-past : goal.returns-then-first-last-clause-past
returns-then-first-last-clause-past g c = rw (c.in_ok-last.ensures.area.image, c.in_ok-head.ensures.area.image) at c.in_ok-cut_past.ensures.past

-- it begins before them
pub set_entry-requires-clause-inside : goal.set_entry-requires-clause-inside
set_entry-requires-clause-inside g c =
    let one = one_of (g.A.Area.image c.args.area.now) c.args.vdr c.requires.vdr in
    let names = rw (c.in-Some.is, c.in_ok-head.ensures.area.image, c.in_ok-head.ensures.value) at c.in_ok-last.ensures.last in
    rw (c.in_ok-last.ensures.area.image, c.in_ok-head.ensures.area.image) (last_inside (by.index_is _ c.requires.good one.among one.vdr_is).0 names)

pub returns-clause-past : goal.returns-clause-past
returns-clause-past g c =
    λ kind before own after among is.
    (let names = rw (c.in-Some.is, c.in_ok-head.ensures.area.image, c.in_ok-head.ensures.value) at c.in_ok-last.ensures.last in
    let written = rw (c.in_ok-last.ensures.area.image, c.in_ok-head.ensures.area.image) at c.in_ok-set_entry.ensures.set in
    trims_end c.requires.good among is c.requires.short c.requires.tidy c.args.first c.requires.unpacked c.in-Some.last names (omega arith) (omega arith) written)

-- ---- whether each block stays

pub returns-in_default-clause-stays : goal.returns-in_default-clause-stays
returns-in_default-clause-stays g c says =
    let one = one_of (g.A.Area.image c.args.area.now) c.args.vdr c.requires.vdr in
    let none = rw (c.in_default.is, c.in_ok-head.ensures.area.image, c.in_ok-head.ensures.value) at c.in_ok-last.ensures.last in
    none_goes (by.index_is _ c.requires.good one.among one.vdr_is).0 c.args.first none

pub returns-then-last-first-clause-stays : goal.returns-then-last-first-clause-stays
returns-then-last-first-clause-stays g c says =
    let one = one_of (g.A.Area.image c.args.area.now) c.args.vdr c.requires.vdr in
    let names = rw (c.in-Some.is, c.in_ok-head.ensures.area.image, c.in_ok-head.ensures.value) at c.in_ok-last.ensures.last in
    none_reaches (by.index_is _ c.requires.good one.among one.vdr_is).0 c.args.first c.in-Some.last names c.if-last-first.true

pub returns-clause-stays : goal.returns-clause-stays
returns-clause-stays g c says =
    let one = one_of (g.A.Area.image c.args.area.now) c.args.vdr c.requires.vdr in
    let names = rw (c.in-Some.is, c.in_ok-head.ensures.area.image, c.in_ok-head.ensures.value) at c.in_ok-last.ensures.last in
    each_begins (by.index_is _ c.requires.good one.among one.vdr_is).0 c.args.first c.in-Some.last names (omega arith)
