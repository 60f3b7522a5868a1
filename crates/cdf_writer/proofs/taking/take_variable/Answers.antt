use Rattle.std.proofs.Common.{List, length, replicate, ℕ, ◌++◌, ◌∷◌}
use Rattle.std.specs.Prelude.{Err}
use Rattle.cdf_writer.specs.Laying.{cpr_bodies}
use Rattle.cdf_writer.specs.Progress.{vdr_rest}
use Rattle.cdf_writer.specs.Shown.{finish_bodies}
use Rattle.cdf_writer.proofs.EventShows.{variable_shows}
use Rattle.cdf_writer.proofs.TakenEvents.{room_within}
use Rattle.cdf_writer.proofs.Writing.{writes_both, writes_first, writes_handed, writes_typed}
use Rattle.cdf_writer.proofs.taking.take_variable.Goals as goal

pub finish-requires-clause-room : goal.finish-requires-clause-room
finish-requires-clause-room g c = room_within (g.A.Area.image c.args.area.now) c.args.file.now c.args.part.now c.requires.shown.0 c.requires.shown.1

pub returns-in_err-finish-clause-area : goal.returns-in_err-finish-clause-area
returns-in_err-finish-clause-area g c =
    let image = g.A.Area.image in
    let frame = g.A.Area.frame in
    let faults = g.A.Area.faults in
    let old = c.args.area.now in
    let new = c.finish.new.area in
    let size = length (image old) in
    let first = finish_bodies c.args.part.now size in
    let opening : List (List ℕ) = replicate (vdr_rest c.args.tail) 0 ∷ cpr_bodies c.args.rle in
    let e = c.in_err-finish.field-0.0 in
    writes_handed image frame faults size old new (first ++ opening) c.from_residual.result e c.from_residual.ensures.1
    (writes_first image frame faults size old new first opening e c.in_err-finish.ensures.area)

pub returns-in_err-opened-clause-area : goal.returns-in_err-opened-clause-area
returns-in_err-opened-clause-area g c =
    let image = g.A.Area.image in
    let frame = g.A.Area.frame in
    let faults = g.A.Area.faults in
    let old = c.args.area.now in
    let mid = c.finish.new.area in
    let new = c.open_variable.new.area in
    let size = length (image old) in
    let first = finish_bodies c.args.part.now size in
    let opening : List (List ℕ) = replicate (vdr_rest c.args.tail) 0 ∷ cpr_bodies c.args.rle in
    let e = c.in_err-opened.field-0.0 in
    writes_handed image frame faults size old new (first ++ opening) c.from_residual-in_err-opened.result e c.from_residual-in_err-opened.ensures.1
    (writes_typed image frame faults size old new (first ++ opening) e
    (writes_both image frame faults size old mid new first opening tt (Err e) c.in_ok-finish.ensures.area c.in_err-opened.ensures.area))

pub returns-clause-shows : goal.returns-clause-shows
returns-clause-shows g c s h =
    let image = g.A.Area.image in
    let opened = c.in_ok-opened.ensures in
    variable_shows (image c.args.area.now) (image c.finish.new.area) (image c.open_variable.new.area) c.args.file.now c.open_variable.new.file c.args.part.now c.in_ok-opened.opened s c.args.own c.args.vary c.args.rle c.args.tail h c.requires.started c.in_ok-finish.ensures.finished opened.appended opened.file opened.variable
