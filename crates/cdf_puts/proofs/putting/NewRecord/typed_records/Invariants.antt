use Rattle.cdf_puts.proofs.Common.{block_type, records_put, ◌≡◌, ◌++◌}
use Rattle.cdf_puts.proofs.putting.NewRecord.typed_records.Given as goal

abbrev pub invariant-loop-i : goal.invariant-loop-i
invariant-loop-i l = l.body.items ≡ block_type ++ records_put l.self.raw.items l.self.pad.items l.self.rec l.i l.first
