use Rattle.std.proofs.Common.{arith, length}
use Rattle.std.specs.Prelude.{Err, Ok}
use Rattle.cdf_writer.specs.Shown.{finish_bodies}
use Rattle.cdf_writer.proofs.EventShows.{end_shows}
use Rattle.cdf_writer.proofs.TakenEvents.{gdr_within, room_within}
use Rattle.cdf_writer.proofs.Writing.{writes_filled, writes_handed}
use Rattle.cdf_writer.proofs.taking.take_end.Goals as goal

pub finish-requires-clause-room : goal.finish-requires-clause-room
finish-requires-clause-room g c = room_within (g.A.Area.image c.args.area.now) c.args.file.now c.args.part.now c.requires.shown.0 c.requires.shown.1

pub finish_file-requires-clause-room : goal.finish_file-requires-clause-room
finish_file-requires-clause-room g c =
    let within = gdr_within (g.A.Area.image c.args.area.now) c.args.file.now c.args.part.now c.requires.shown.0 c.requires.shown.1 c.requires.started in
    omega (arith, within, c.in_ok-finish.ensures.area.long)

pub returns-in_err-finish_file-clause-area : goal.returns-in_err-finish_file-clause-area
returns-in_err-finish_file-clause-area g c =
    let image = g.A.Area.image in
    let frame = g.A.Area.frame in
    let faults = g.A.Area.faults in
    let old = c.args.area.now in
    let mid = c.finish.new.area in
    let new = c.finish_file.new.area in
    let size = length (image old) in
    let bodies = finish_bodies c.args.part.now size in
    let e = c.in_err-finish_file.field-0.0 in
    writes_handed image frame faults size old new bodies c.from_residual-in_err-finish_file.result e c.from_residual-in_err-finish_file.ensures.1
    (writes_filled image frame faults size old mid new bodies tt (Err e) c.in_ok-finish.ensures.area c.in_err-finish_file.ensures.area)

pub returns-clause-area : goal.returns-clause-area
returns-clause-area g c =
    let image = g.A.Area.image in
    let frame = g.A.Area.frame in
    let faults = g.A.Area.faults in
    let old = c.args.area.now in
    let size = length (image old) in
    writes_filled image frame faults size old c.finish.new.area c.finish_file.new.area (finish_bodies c.args.part.now size) tt (Ok tt) c.in_ok-finish.ensures.area c.in_ok-finish_file.ensures.area

pub returns-clause-shows : goal.returns-clause-shows
returns-clause-shows g c s h =
    let image = g.A.Area.image in
    end_shows (image c.args.area.now) (image c.finish.new.area) (image c.finish_file.new.area) c.args.file.now c.args.part.now s h c.requires.started c.in_ok-finish.ensures.finished c.in_ok-finish_file.ensures.finished
