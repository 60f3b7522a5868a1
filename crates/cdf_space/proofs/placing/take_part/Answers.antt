use Rattle.cdf_space.proofs.Common.{ap, arith, eof, length, on_ok_weaker, shape, sym, ◌∙◌, ◌≡◌}
use Rattle.cdf_space.proofs.Taking.{a_ends, link_lies, next_lies, next_apart, has_room, taken_part}
use Rattle.cdf_space.proofs.placing.take_part.Goals as goal

pub overflow_add-rest : goal.overflow_add-rest
overflow_add-rest g c =
    let b = g.A.Area.image c.args.area.now in
    let whole : eof b (shape b).gdr ≡ length b = ap (eof b) (sym c.requires.sound.has_shape.gdr_is) ∙ c.requires.eof in
    let room = has_room b (shape b) c.args.need c.args.fit c.requires.sound c.requires.fit c.requires.need whole c.requires.size in
    let ends = a_ends b (shape b) c.args.need c.args.fit c.requires.sound c.requires.fit in
    let short = c.requires.short in
    omega arith

pub list-requires : goal.list-requires
list-requires g c =
    let b = g.A.Area.image c.args.area.now in
    let whole : eof b (shape b).gdr ≡ length b = ap (eof b) (sym c.requires.sound.has_shape.gdr_is) ∙ c.requires.eof in
    let room = has_room b (shape b) c.args.need c.args.fit c.requires.sound c.requires.fit c.requires.need whole c.requires.size in
    let ends = a_ends b (shape b) c.args.need c.args.fit c.requires.sound c.requires.fit in
    omega arith

pub relink-requires-clause-link : goal.relink-requires-clause-link
relink-requires-clause-link g c =
    let b = g.A.Area.image c.args.area.now in
    let lies = link_lies b (shape b) c.args.need c.args.fit c.requires.sound c.requires.fit in
    let long = c.in_ok-list.ensures.listed.length_stays in
    omega arith

pub relink-requires-clause-next : goal.relink-requires-clause-next
relink-requires-clause-next g c = λ some.
    let b = g.A.Area.image c.args.area.now in
    let lies = next_lies b (shape b) c.args.need c.args.fit c.requires.sound c.requires.fit some in
    let long = c.in_ok-list.ensures.listed.length_stays in
    omega arith

pub relink-requires-clause-apart : goal.relink-requires-clause-apart
relink-requires-clause-apart g c = let b = g.A.Area.image c.args.area.now in next_apart b (shape b) c.args.need c.args.fit c.requires.sound c.requires.fit

pub set_record_size-requires : goal.set_record_size-requires
set_record_size-requires g c =
    let b = g.A.Area.image c.args.area.now in
    let whole : eof b (shape b).gdr ≡ length b = ap (eof b) (sym c.requires.sound.has_shape.gdr_is) ∙ c.requires.eof in
    let room = has_room b (shape b) c.args.need c.args.fit c.requires.sound c.requires.fit c.requires.need whole c.requires.size in
    let ends = a_ends b (shape b) c.args.need c.args.fit c.requires.sound c.requires.fit in
    let long1 = c.in_ok-list.ensures.listed.length_stays in
    let long2 = c.in_ok-relink.ensures.relinked.length_stays in
    omega arith

pub clear-requires : goal.clear-requires
clear-requires g c =
    let b = g.A.Area.image c.args.area.now in
    let whole : eof b (shape b).gdr ≡ length b = ap (eof b) (sym c.requires.sound.has_shape.gdr_is) ∙ c.requires.eof in
    let room = has_room b (shape b) c.args.need c.args.fit c.requires.sound c.requires.fit c.requires.need whole c.requires.size in
    let ends = a_ends b (shape b) c.args.need c.args.fit c.requires.sound c.requires.fit in
    let some = c.requires.need in
    let long1 = c.in_ok-list.ensures.listed.length_stays in
    let long2 = c.in_ok-relink.ensures.relinked.length_stays in
    let long3 = c.in_ok-set_record_size.ensures.area.size in
    omega arith

pub returns-clause-taken : goal.returns-clause-taken
returns-clause-taken g c =
    let b = g.A.Area.image c.args.area.now in
    let whole : eof b (shape b).gdr ≡ length b = ap (eof b) (sym c.requires.sound.has_shape.gdr_is) ∙ c.requires.eof in
    on_ok_weaker _ (λ z. taken_part b (shape b) c.args.need c.args.fit c.requires.sound c.requires.fit c.requires.need whole (g.A.Area.image c.list.new.area) (g.A.Area.image c.relink.new.area) (g.A.Area.image c.set_record_size.new.area) (g.A.Area.image c.clear.new.area) c.requires.size c.ranges.need.fits
    c.in_ok-list.ensures.listed c.in_ok-relink.ensures.relinked c.in_ok-set_record_size.ensures.ok z) c.clear.ensures.cleared
