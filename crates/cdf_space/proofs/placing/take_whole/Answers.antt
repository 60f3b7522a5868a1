use Rattle.cdf_space.proofs.Common.{ap, arith, eof, length, on_ok_weaker, shape, sym, ◌∙◌, ◌≡◌}
use Rattle.cdf_space.proofs.Taking.{a_ends, link_lies, next_lies, next_apart, taken_whole}
use Rattle.cdf_space.proofs.placing.take_whole.Goals as goal

pub relink-requires-clause-link : goal.relink-requires-clause-link
relink-requires-clause-link g c = let b = g.A.Area.image c.args.area.now in link_lies b (shape b) c.args.need c.args.fit c.requires.sound c.requires.fit

pub relink-requires-clause-next : goal.relink-requires-clause-next
relink-requires-clause-next g c = let b = g.A.Area.image c.args.area.now in next_lies b (shape b) c.args.need c.args.fit c.requires.sound c.requires.fit

pub relink-requires-clause-apart : goal.relink-requires-clause-apart
relink-requires-clause-apart g c = let b = g.A.Area.image c.args.area.now in next_apart b (shape b) c.args.need c.args.fit c.requires.sound c.requires.fit

pub overflow_add-fit : goal.overflow_add-fit
overflow_add-fit g c =
    let b = g.A.Area.image c.args.area.now in
    let ends = a_ends b (shape b) c.args.need c.args.fit c.requires.sound c.requires.fit in
    let short = c.requires.short in
    let size = c.requires.size in
    let own = c.requires.fit.size_is in
    let some = c.requires.need in
    omega arith

pub clear-requires : goal.clear-requires
clear-requires g c =
    let b = g.A.Area.image c.args.area.now in
    let ends = a_ends b (shape b) c.args.need c.args.fit c.requires.sound c.requires.fit in
    let size = c.requires.size in
    let own = c.requires.fit.size_is in
    let some = c.requires.need in
    let long = c.in_ok-relink.ensures.relinked.length_stays in
    omega arith

pub returns-clause-taken : goal.returns-clause-taken
returns-clause-taken g c =
    let b = g.A.Area.image c.args.area.now in
    let whole : eof b (shape b).gdr ≡ length b = ap (eof b) (sym c.requires.sound.has_shape.gdr_is) ∙ c.requires.eof in
    on_ok_weaker _ (λ z. taken_whole b (shape b) c.args.need c.args.fit c.requires.sound c.requires.fit c.requires.need whole (g.A.Area.image c.relink.new.area) (g.A.Area.image c.clear.new.area) c.requires.size c.in_ok-relink.ensures.relinked z) c.clear.ensures.cleared
