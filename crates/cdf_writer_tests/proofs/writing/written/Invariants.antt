use Rattle.std.proofs.Common.{take}
use Rattle.cdf_writer.specs.Taken.{Took}
use Rattle.cdf_writer_tests.proofs.writing.written.Given as goal

abbrev pub invariant-loop-event : goal.invariant-loop-event
invariant-loop-event g l = Took g.A.Area.image g.A.Area.frame l.writer (take l.event-index l.events)
