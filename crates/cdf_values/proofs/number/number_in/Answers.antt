use Rattle.cdf_values.proofs.Common.{arith}
use Rattle.cdf_values.proofs.ByteLemmas.{room_of_eight}
use Rattle.cdf_values.proofs.number.number_in.Goals as goal

pub overflow_mul-number : goal.overflow_mul-number
overflow_mul-number c = omega (arith, room_of_eight c.loop-byte.byte-index c.loop-byte.number (omega arith) c.loop-byte.invariant.fits)

pub overflow_add-number : goal.overflow_add-number
overflow_add-number c =
    omega (arith, room_of_eight c.loop-byte.byte-index c.loop-byte.number (omega arith) c.loop-byte.invariant.fits, c.type_inv.bytes c.loop-byte.byte-index)
