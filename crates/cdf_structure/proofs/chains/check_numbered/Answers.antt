use Rattle.cdf_structure.proofs.Common.{arith, field, length, walk_of, whole, ◌+◌, ◌≡◌}
use Rattle.cdf_structure.proofs.NumberSteps.{member_fields}
use Rattle.cdf_structure.proofs.chains.check_numbered.Goals as goal

pub check_numbers-requires : goal.check_numbers-requires
check_numbers-requires g c =
    let b = g.A.Area.image c.args.area.now in
    let kind = c.args.kind in
    let is : walk_of b c.args.tiles.now kind c.args.holder ≡ whole c.in-Ok.members.items = rw c.in-Ok.is at c.in_ok-walked.ensures.walk in
    record {
      fields = λ m i.
          let inside = member_fields b c.args.tiles.now (length b) kind.record_type c.args.holder (field kind.head 8) (kind.number + 4) c.in-Ok.members.items c.requires.tiled c.requires.long c.requires.number is m (rw c.deref-2.ensures.value at i) in
          rw (c.check_count.ensures.area.image, c.walk_chain.ensures.area.image) (omega (arith, inside));
    }
