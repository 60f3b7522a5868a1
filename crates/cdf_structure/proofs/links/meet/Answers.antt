use Rattle.cdf_structure.proofs.Common.{arith, is_in, is_linkable, length, not, sym, true, ◌&&◌, ◌∙◌, ◌≡◌}
use Rattle.cdf_structure.proofs.ChainSteps.{next_lies}
use Rattle.cdf_structure.proofs.links.meet.Goals as goal

pub overflow_add-place : goal.overflow_add-place
overflow_add-place g c =
    let b = g.A.Area.image c.args.area.now in
    let value : c.in_ok-goes_on.field-0 ≡ (is_linkable b c.args.tiles.now c.args.record_type c.args.place && not (is_in c.args.place c.args.met.now.list.items)) = c.in_ok-goes_on.ensures.value in
    let right : (is_linkable b c.args.tiles.now c.args.record_type c.args.place && not (is_in c.args.place c.args.met.now.list.items)) ≡ true = sym value ∙ c.if-not-branch.false in
    omega (arith, next_lies b c.args.tiles.now (length b) c.args.record_type c.args.place c.args.met.now.list.items c.requires.tiled right, c.size-size.ensures)

pub read_unsigned8-requires : goal.read_unsigned8-requires
read_unsigned8-requires g c =
    let b = g.A.Area.image c.args.area.now in
    let value : c.in_ok-goes_on.field-0 ≡ (is_linkable b c.args.tiles.now c.args.record_type c.args.place && not (is_in c.args.place c.args.met.now.list.items)) = c.in_ok-goes_on.ensures.value in
    let right : (is_linkable b c.args.tiles.now c.args.record_type c.args.place && not (is_in c.args.place c.args.met.now.list.items)) ≡ true = sym value ∙ c.if-not-branch.false in
    rw c.goes_on.ensures.area.image (omega (arith, next_lies b c.args.tiles.now (length b) c.args.record_type c.args.place c.args.met.now.list.items c.requires.tiled right))

pub returns-clause-meets : goal.returns-clause-meets
returns-clause-meets g c =
    let b = g.A.Area.image c.args.area.now in
    let value : c.in_ok-goes_on.field-0 ≡ (is_linkable b c.args.tiles.now c.args.record_type c.args.place && not (is_in c.args.place c.args.met.now.list.items)) = c.in_ok-goes_on.ensures.value in
    let right : (is_linkable b c.args.tiles.now c.args.record_type c.args.place && not (is_in c.args.place c.args.met.now.list.items)) ≡ true = sym value ∙ c.if-not-branch.false in
    (right, rw c.goes_on.ensures.area.image at c.in_ok-next.ensures.value, c.in_ok-add.ensures.items, c.in_ok-add.ensures.agrees)
