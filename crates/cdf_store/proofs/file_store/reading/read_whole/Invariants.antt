use Rattle.cdf_model.specs.Limits.{image_limit}
use Rattle.std.proofs.Common.{◌+◌}
use Rattle.cdf_store.proofs.LimitedReads.{ReadSoFar}
use Rattle.cdf_store.proofs.file_store.reading.read_whole.Given as goal

abbrev pub invariant-loop-room : goal.invariant-loop-room
invariant-loop-room g l = ReadSoFar (g.F.Read.remaining l.fn.file) (g.F.Read.remaining l.file) l.fn.pieces.bytes l.pieces.bytes l.room (image_limit + 17)

abbrev pub decreases-loop-room : goal.decreases-loop-room
decreases-loop-room g l = l.room
