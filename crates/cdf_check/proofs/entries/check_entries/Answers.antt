use Rattle.cdf_check.proofs.Common.{entry_walk, field, length, whole, ◌≡◌}
use Rattle.cdf_structure.proofs.NumberSteps.{member_fields}
use Rattle.cdf_check.proofs.entries.check_entries.Goals as goal

pub check_members-requires-clause-entries : goal.check_members-requires-clause-entries
check_members-requires-clause-entries g c =
    let b = g.A.Area.image c.args.area.now in
    let kind = c.args.kind in
    let is : entry_walk b c.args.tiles.now kind c.args.adr ≡ whole c.in-Ok.entries.items = rw c.in-Ok.is at c.in_ok-walked.ensures.walk in
    λ m i.
    let inside = member_fields b c.args.tiles.now (length b) kind.record_type c.args.adr (field kind.head 8) 56 c.in-Ok.entries.items c.requires.tiled c.requires.long c.requires.entry is m (rw c.deref.ensures.value at i) in
    rw c.walk_chain.ensures.area.image inside
