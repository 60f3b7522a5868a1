use Rattle.std.proofs.Common.{◌*◌, ◌-◌, ◌≡◌, length}
use Rattle.cdf_base.specs.Bytes.{put}
use Rattle.cdf_puts.specs.Putting.{records_put}
use Rattle.cdf_packed_puts.proofs.rewriting.with_records.Given as goal

abbrev pub invariant-loop-i : goal.invariant-loop-i
invariant-loop-i l = record {
  written : l.plain.items ≡ put l.fn.plain.items ((l.k - l.leaf.first) * length l.put.raw.items) (records_put l.put.raw.items l.put.pad.items l.put.rec l.i l.k);
  as_long : length l.plain.items ≡ length l.fn.plain.items;
}
