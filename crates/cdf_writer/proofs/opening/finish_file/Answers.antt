use Rattle.std.proofs.Common.{ap, arith, length, ◌∙◌}
use Rattle.cdf_writer.proofs.Placed.{gdr_made_long}
use Rattle.cdf_writer.proofs.opening.finish_file.Goals as goal

pub fill_room-requires-clause-room : goal.fill_room-requires-clause-room
fill_room-requires-clause-room g c = omega (arith, c.requires.room, ap length (c.deref.ensures.value ∙ c.in_ok-body.ensures), gdr_made_long c.args.file.now c.size.result)
