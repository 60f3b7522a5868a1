use Rattle.cdf_structure.proofs.Common.{arith, false, get_or, true, ◌∙◌, ◌≡◌}
use Rattle.cdf_structure.proofs.Tallies.{mark_is, marks_again, marks_first, marks_miss}
use Rattle.cdf_structure.proofs.owners.Owners.add.Goals as goal

pub returns-in_default-clause-told : goal.returns-in_default-clause-told
returns-in_default-clause-told c = λ owned knows.
    let before = c.args.self.now in
    marks_miss c.args.tiles.now owned c.args.place before.has_owner.items before.shared c.in_default.ensures knows

pub returns-then-index-clause-told : goal.returns-then-index-clause-told
returns-then-index-clause-told c = λ owned knows.
    let i = c.in-Some.i in
    let tiles = c.args.tiles.now in
    let before = c.args.self.now in
    let marks = before.has_owner.items in
    let mark : get_or marks i false ≡ true = mark_is marks i c.index.result.now (omega (arith, c.requires.marks, c.in-Some.ensures.0)) c.index.ensures ∙ c.if-index.true in
    rw c.first_of.ensures (marks_again tiles owned c.args.place i c.requires.climbs marks c.requires.marks c.in-Some.ensures.0 c.in-Some.ensures.1 mark before.shared knows)

pub returns-else-index-clause-told : goal.returns-else-index-clause-told
returns-else-index-clause-told c = λ owned knows.
    let i = c.in-Some.i in
    let tiles = c.args.tiles.now in
    let before = c.args.self.now in
    let marks = before.has_owner.items in
    let mark : get_or marks i false ≡ false = mark_is marks i c.index.result.now (omega (arith, c.requires.marks, c.in-Some.ensures.0)) c.index.ensures ∙ c.if-index.false in
    marks_first tiles owned c.args.place i c.requires.climbs marks c.requires.marks c.in-Some.ensures.0 c.in-Some.ensures.1 mark before.shared knows
