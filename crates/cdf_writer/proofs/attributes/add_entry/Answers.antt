use Rattle.std.proofs.Common.{arith}
use Rattle.cdf_writer.proofs.attributes.add_entry.Goals as goal

pub overflow_add-place : goal.overflow_add-place
overflow_add-place g c = omega (arith, c.size.ensures, c.held_size.ensures.small, c.requires.within, c.requires.limit)
