use Rattle.cdf_structure.proofs.Common.{Ok, WalksTiles}
use Rattle.cdf_structure.proofs.RecordSteps.{records_hold, records_break}
use Rattle.cdf_structure.proofs.tiles.check_tiles.Goals as goal

pub returns-in-Some-clause-found : goal.returns-in-Some-clause-found
returns-in-Some-clause-found g c =
    let b = g.A.Area.image c.args.area.now in
    let walked : WalksTiles b (Ok c.in-Ok.walked) = rw c.in-Ok.is at c.in_ok-walked.ensures.walk in
    records_break b c.in-Ok.walked walked c.in-Some.broken c.in-Some.is

pub returns-in-None-clause-found : goal.returns-in-None-clause-found
returns-in-None-clause-found g c =
    let b = g.A.Area.image c.args.area.now in
    let walked : WalksTiles b (Ok c.in-Ok.walked) = rw c.in-Ok.is at c.in_ok-walked.ensures.walk in
    records_hold b c.in-Ok.walked walked c.in-None.is
