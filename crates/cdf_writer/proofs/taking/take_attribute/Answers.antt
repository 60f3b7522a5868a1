use Rattle.std.proofs.Common.{List, [], length, replicate, ℕ, ◌++◌, ◌∷◌}
use Rattle.std.specs.Prelude.{Err}
use Rattle.cdf_format.specs.Records.{adr_name}
use Rattle.cdf_writer.specs.Bodies.{name_bytes}
use Rattle.cdf_writer.specs.Progress.{adr_rest}
use Rattle.cdf_writer.specs.Shown.{finish_bodies}
use Rattle.cdf_writer.proofs.EventShows.{attribute_shows}
use Rattle.cdf_writer.proofs.TakenEvents.{room_within}
use Rattle.cdf_writer.proofs.Writing.{writes_both, writes_first, writes_handed, writes_typed}
use Rattle.cdf_writer.proofs.taking.take_attribute.Goals as goal

pub finish-requires-clause-room : goal.finish-requires-clause-room
finish-requires-clause-room g c = room_within (g.A.Area.image c.args.area.now) c.args.file.now c.args.part.now c.requires.shown.0 c.requires.shown.1

pub returns-in_err-finish-clause-area : goal.returns-in_err-finish-clause-area
returns-in_err-finish-clause-area g c =
    let image = g.A.Area.image in
    let frame = g.A.Area.frame in
    let faults = g.A.Area.faults in
    let old = c.args.area.now in
    let new = c.finish.new.area in
    let size = length (image old) in
    let first = finish_bodies c.args.part.now size in
    let zeros : List ℕ = replicate (adr_rest (name_bytes adr_name c.args.name.now)) 0 in
    let e = c.in_err-finish.field-0.0 in
    writes_handed image frame faults size old new (first ++ zeros ∷ []) c.from_residual.result e c.from_residual.ensures.1
    (writes_first image frame faults size old new first (zeros ∷ []) e c.in_err-finish.ensures.area)

pub returns-in_err-opened-clause-area : goal.returns-in_err-opened-clause-area
returns-in_err-opened-clause-area g c =
    let image = g.A.Area.image in
    let frame = g.A.Area.frame in
    let faults = g.A.Area.faults in
    let old = c.args.area.now in
    let mid = c.finish.new.area in
    let new = c.open_attribute.new.area in
    let size = length (image old) in
    let first = finish_bodies c.args.part.now size in
    let zeros : List ℕ = replicate (adr_rest (name_bytes adr_name c.args.name.now)) 0 in
    let e = c.in_err-opened.field-0.0 in
    writes_handed image frame faults size old new (first ++ zeros ∷ []) c.from_residual-in_err-opened.result e c.from_residual-in_err-opened.ensures.1
    (writes_typed image frame faults size old new (first ++ zeros ∷ []) e
    (writes_both image frame faults size old mid new first (zeros ∷ []) tt (Err e) c.in_ok-finish.ensures.area c.in_err-opened.ensures.area))

pub returns-clause-shows : goal.returns-clause-shows
returns-clause-shows g c s h =
    let image = g.A.Area.image in
    let opened = c.in_ok-opened.ensures in
    attribute_shows (image c.args.area.now) (image c.finish.new.area) (image c.open_attribute.new.area) c.args.file.now c.open_attribute.new.file c.args.part.now c.in_ok-opened.opened s c.args.num c.args.name.now c.args.scope h c.requires.started c.in_ok-finish.ensures.finished opened.appended opened.file opened.attribute
