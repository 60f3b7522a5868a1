use Rattle.cdf_structure.proofs.Common.{arith, get_or}
use Rattle.cdf_structure.proofs.Rows.{In-get_or}
use Rattle.cdf_structure.proofs.chains.check_numbers.Goals as goal

pub overflow_add-place : goal.overflow_add-place
overflow_add-place g c =
    let i = c.loop-i.i in
    let inside = c.requires.fields (get_or c.args.members.now i 0) (In-get_or c.args.members.now i c.loop-i-test.true) in
    omega (arith, inside, c.size-size.ensures)

pub read_unsigned4-requires : goal.read_unsigned4-requires
read_unsigned4-requires g c =
    let i = c.loop-i.i in
    let inside = c.requires.fields (get_or c.args.members.now i 0) (In-get_or c.args.members.now i c.loop-i-test.true) in
    rw c.loop-i.invariant.area.image (omega (arith, inside))
