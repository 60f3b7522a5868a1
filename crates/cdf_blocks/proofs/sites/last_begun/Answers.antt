use Rattle.cdf_blocks.proofs.Common.{ap, arith, length, sym, ◌-◌}
use Rattle.cdf_blocks.proofs.SpotLeaf.{named_inside, some_node, told}
use Rattle.cdf_index.proofs.Looking.{node_inside}
use Rattle.cdf_blocks.proofs.sites.last_begun.Goals as goal

pub returns-then-end-eq0-clause-found : goal.returns-then-end-eq0-clause-found
returns-then-end-eq0-clause-found g c = let e = c.requires.end in (told c.requires.index c.requires.there e.place_is e.sees.begun).none c.if-end-eq0.true

pub read_entry-requires-clause-inside : goal.read_entry-requires-clause-inside
read_entry-requires-clause-inside g c = node_inside _ _ (some_node c.requires.index c.requires.end.among)

pub returns-then-entry-rec-clause-found : goal.returns-then-entry-rec-clause-found
returns-then-entry-rec-clause-found g c =
    let e = c.requires.end in
    (told c.requires.index c.requires.there e.place_is e.sees.begun).past (c.args.end.now.begun - 1) (omega (arith, c.if-end-eq0.false)) (omega (arith, c.in_ok-entry.ensures.value.last_is, c.if-entry-rec.true))

pub overflow_add-entry : goal.overflow_add-entry
overflow_add-entry g c =
    let e = c.requires.end in
    omega (arith, named_inside {n = c.args.end.now.begun} c.requires.index e.among (omega (arith, c.if-end-eq0.false)) e.sees.begun.most c.in_ok-entry.ensures.value, c.requires.short)

pub read_unsigned4-requires : goal.read_unsigned4-requires
read_unsigned4-requires g c =
    let e = c.requires.end in
    omega (arith, named_inside {n = c.args.end.now.begun} c.requires.index e.among (omega (arith, c.if-end-eq0.false)) e.sees.begun.most c.in_ok-entry.ensures.value, ap length c.in_ok-entry.ensures.area.image)

pub returns-clause-found : goal.returns-clause-found
returns-clause-found g c =
    let e = c.requires.end in
    let says = c.in_ok-entry.ensures.value in
    let kind = rw c.in_ok-entry.ensures.area.image at c.in_ok-kind.ensures.value in
    let found = (told c.requires.index c.requires.there e.place_is e.sees.begun).there (c.args.end.now.begun - 1) _ _ _ (omega (arith, c.if-end-eq0.false)) says c.if-entry-rec.false in
    (rw kind (sym found), record { there = e.among; room_is = e.sees.room_is; used = omega (arith, c.if-end-eq0.false, e.sees.begun.most); says = says })
