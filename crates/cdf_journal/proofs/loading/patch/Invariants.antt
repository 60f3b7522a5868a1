use Rattle.std.proofs.Common.{length}
use Rattle.cdf_journal.specs.Loading.{fit_members}
use Rattle.cdf_journal.proofs.Loaded.{SoFar}
use Rattle.cdf_journal.proofs.loading.patch.Given as goal

abbrev pub invariant-loop-left : goal.invariant-loop-left
invariant-loop-left l = SoFar l.fn.file.items l.fn.ranges.items (fit_members (length l.fn.file.items) l.new_length l.count l.bytes) l.file.items l.ranges.items (fit_members (length l.file.items) l.new_length l.left l.rest)

abbrev pub decreases-loop-left : goal.decreases-loop-left
decreases-loop-left l = l.left
