use Rattle.cdf_session.proofs.AdoptLemmas.{stays_well_formed}
use Rattle.cdf_session.proofs.Explained.{explained, begins_after}
use Rattle.cdf_session.proofs.session.Session.adopt.Goals as goal

pub open-requires-clause-well_formed : goal.open-requires-clause-well_formed
open-requires-clause-well_formed g c = stays_well_formed (g.A.Area.image c.args.area) (g.A.Area.image c.check.new.area) (rw c.in-Ok-None.field-0-is at c.in-Ok-None.ensures.verdict) c.check.ensures.area.image

pub returns-in-Ok-None-clause-area : goal.returns-in-Ok-None-clause-area
returns-in-Ok-None-clause-area g c =
    let read = c.check.ensures.area in
    begins_after g.A.Area.image g.A.Area.frame g.A.Area.faults c.args.area c.check.new.area read.image read.frame c.in-Ok-None.ensures.area.cause.done c.open.result c.open.ensures.area

pub returns-in-Ok-Some-clause-area : goal.returns-in-Ok-Some-clause-area
returns-in-Ok-Some-clause-area g c =
    let read = c.check.ensures.area in
    record { frame = tt; counted = tt; image = read.image; frame_back = read.frame; cause = c.in-Ok-Some.ensures.area.cause.done }

pub returns-in-Err-clause-area : goal.returns-in-Err-clause-area
returns-in-Err-clause-area g c =
    let read = c.check.ensures.area in
    record { frame = tt; counted = tt; image = read.image; frame_back = read.frame; cause = explained c.in-Err.error _ _ c.in-Err.ensures.area.cause }
