use Rattle.std.proofs.Common.{arith}
use Rattle.cdf_writer.proofs.appending.fill_room.Goals as goal

pub overflow_add-place : goal.overflow_add-place
overflow_add-place g c = omega (arith, c.requires.room, c.requires.within, c.requires.limit)
