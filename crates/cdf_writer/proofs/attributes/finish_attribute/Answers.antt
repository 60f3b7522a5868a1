use Rattle.std.proofs.Common.{List, [], ap, append-nil, arith, length, subst, ℕ, ◌∙◌}
use Rattle.std.specs.Prelude.{Err}
use Rattle.cdf_writer.specs.Progress.{held_bodies}
use Rattle.cdf_writer.specs.Stops.{Writes}
use Rattle.cdf_writer.proofs.Finished.{adr_made_long}
use Rattle.cdf_writer.proofs.Writing.{writes_both, writes_handed}
use Rattle.cdf_writer.proofs.attributes.finish_attribute.Goals as goal

pub fill_room-requires-clause-room : goal.fill_room-requires-clause-room
fill_room-requires-clause-room g c =
    omega (arith, c.requires.room, c.in_ok-append_held.ensures.area.long, ap length (c.deref.ensures.value ∙ c.in_ok-body.ensures), adr_made_long c.args.file.now c.size.result c.args.a.now)

pub returns-in_err-fill_room-clause-area : goal.returns-in_err-fill_room-clause-area
returns-in_err-fill_room-clause-area g c =
    let image = g.A.Area.image in
    let frame = g.A.Area.frame in
    let faults = g.A.Area.faults in
    let old = c.args.area.now in
    let new = c.fill_room.new.area in
    let size = length (image old) in
    let bodies = held_bodies c.args.a.now 0 in
    let e = c.in_err-fill_room.field-0.0 in
    writes_handed image frame faults size old new bodies c.from_residual-in_err-fill_room.result e c.from_residual-in_err-fill_room.ensures.1
    (subst (λ (l : List (List ℕ)). Writes {T = Unit {0}} image frame faults size old new l (Err e)) (append-nil bodies)
    (writes_both image frame faults size old c.append_held.new.area new bodies [] tt (Err e) c.in_ok-append_held.ensures.area c.in_err-fill_room.ensures.area))
