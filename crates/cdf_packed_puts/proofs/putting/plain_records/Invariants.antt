use Rattle.std.proofs.Common.{◌≡◌}
use Rattle.cdf_puts.specs.Putting.{records_put}
use Rattle.cdf_packed_puts.proofs.putting.plain_records.Given as goal

abbrev pub invariant-loop-i : goal.invariant-loop-i
invariant-loop-i l = l.plain.items ≡ records_put l.put.raw.items l.put.pad.items l.put.rec l.i l.first
