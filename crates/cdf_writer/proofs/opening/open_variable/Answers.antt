use Rattle.std.proofs.Common.{List, [], length, replicate, subst, ℕ, ◌+◌, ◌∷◌}
use Rattle.std.specs.Prelude.{Err, Ok}
use Rattle.cdf_writer.specs.Laying.{cpr_bodies}
use Rattle.cdf_writer.specs.Progress.{vdr_rest}
use Rattle.cdf_writer.specs.Stops.{Writes}
use Rattle.cdf_writer.proofs.Writing.{writes_both, writes_first, writes_handed, writes_typed}
use Rattle.cdf_writer.proofs.opening.open_variable.Goals as goal

pub returns-in_err-keep_room-clause-area : goal.returns-in_err-keep_room-clause-area
returns-in_err-keep_room-clause-area g c =
    let image = g.A.Area.image in
    let frame = g.A.Area.frame in
    let faults = g.A.Area.faults in
    let old = c.args.area.now in
    let new = c.keep_room.new.area in
    let size = length (image old) in
    let e = c.in_err-keep_room.field-0.0 in
    let zeros : List ℕ = replicate (vdr_rest c.args.tail) 0 in
    writes_handed image frame faults size old new (zeros ∷ cpr_bodies c.args.rle) c.from_residual.result e c.from_residual.ensures.1
    (writes_first image frame faults size old new (zeros ∷ []) (cpr_bodies c.args.rle) e
    (subst (λ (l : List ℕ). Writes {T = Unit {0}} image frame faults size old new (replicate (76 + length l) 0 ∷ []) (Err e)) c.as_slice.ensures c.in_err-keep_room.ensures.area))

pub returns-in_err-append_cpr-clause-area : goal.returns-in_err-append_cpr-clause-area
returns-in_err-append_cpr-clause-area g c =
    let image = g.A.Area.image in
    let frame = g.A.Area.frame in
    let faults = g.A.Area.faults in
    let old = c.args.area.now in
    let mid = c.keep_room.new.area in
    let new = c.append_cpr.new.area in
    let size = length (image old) in
    let e = c.in_err-append_cpr.field-0.0 in
    let zeros : List ℕ = replicate (vdr_rest c.args.tail) 0 in
    writes_handed image frame faults size old new (zeros ∷ cpr_bodies c.args.rle) c.from_residual-in_err-append_cpr.result e c.from_residual-in_err-append_cpr.ensures.1
    (writes_typed image frame faults size old new (zeros ∷ cpr_bodies c.args.rle) e
    (writes_both image frame faults size old mid new (zeros ∷ []) (cpr_bodies c.args.rle) tt (Err e)
    (subst (λ (l : List ℕ). Writes {T = Unit {0}} image frame faults size old mid (replicate (76 + length l) 0 ∷ []) (Ok tt)) c.as_slice.ensures c.in_ok-keep_room.ensures.area)
    c.in_err-append_cpr.ensures.area))
