use Rattle.std.proofs.Common.{◌-◌, length}
use Rattle.cdf_rle.proofs.ReadingLemmas.{IsRead}
use Rattle.cdf_rle.proofs.reading.unpack_into.Given as goal

abbrev pub invariant-loop-place : goal.invariant-loop-place
invariant-loop-place l = IsRead l.bytes l.out l.place l.filled

abbrev pub decreases-loop-place : goal.decreases-loop-place
decreases-loop-place l = length l.bytes - l.place
