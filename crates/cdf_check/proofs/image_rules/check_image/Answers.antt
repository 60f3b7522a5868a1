use Rattle.cdf_check.proofs.Common.{AreRecords, Ok, Yields, phase4}
use Rattle.cdf_check.proofs.image_rules.check_image.Goals as goal

pub check_linked-requires-clause-tiling : goal.check_linked-requires-clause-tiling
check_linked-requires-clause-tiling g c =
    let b = g.A.Area.image c.args.area.now in
    let records : Yields (phase4 b) (AreRecords b) (Ok c.in-Ok.records) = rw c.in-Ok.is at c.in_ok-records.ensures.found in
    rw (c.deref.ensures.value, c.check_tiles.ensures.area.image) records.1.walk

pub check_linked-requires-clause-unused : goal.check_linked-requires-clause-unused
check_linked-requires-clause-unused g c =
    let b = g.A.Area.image c.args.area.now in
    let records : Yields (phase4 b) (AreRecords b) (Ok c.in-Ok.records) = rw c.in-Ok.is at c.in_ok-records.ensures.found in
    rw (c.deref.ensures.value, c.deref-2.ensures.value, c.check_tiles.ensures.area.image) records.1.unused

pub check_linked-requires-clause-records : goal.check_linked-requires-clause-records
check_linked-requires-clause-records g c =
    let b = g.A.Area.image c.args.area.now in
    let records : Yields (phase4 b) (AreRecords b) (Ok c.in-Ok.records) = rw c.in-Ok.is at c.in_ok-records.ensures.found in
    rw c.check_tiles.ensures.area.image records.0
