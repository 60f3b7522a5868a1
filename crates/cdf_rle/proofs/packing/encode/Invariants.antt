use Rattle.std.proofs.Common.{◌-◌, length}
use Rattle.cdf_rle.proofs.PackingLemmas.{IsPacked}
use Rattle.cdf_rle.proofs.packing.encode.Given as goal

abbrev pub invariant-loop-place : goal.invariant-loop-place
invariant-loop-place l = IsPacked l.bytes l.packed.items l.place

abbrev pub decreases-loop-place : goal.decreases-loop-place
decreases-loop-place l = length l.bytes - l.place
