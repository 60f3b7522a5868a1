-- Plain bytes were written into their block.
use Rattle.std.proofs.Common.{List, arith, false, length, refl, ℕ, ◌+◌, ◌≡◌, ◌≤◌}
use Rattle.cdf_base.proofs.Puts.{length-put}
use Rattle.cdf_base.specs.Bytes.{put}
use Rattle.cdf_edits.proofs.Frame.ChangedBytes.{changed_put}
use Rattle.cdf_puts.proofs.PutBytes.{put_there}
use Rattle.cdf_blocks.specs.Blocks.{Overwritten}

pub plain_written : (b now : List ℕ) (at : ℕ) (bytes : List ℕ) → now ≡ put b (at + 12) bytes → at + (12 + length bytes) ≤ length b → Overwritten b now at false bytes
plain_written b now at bytes e fit = rw e (record {
  as_long = length-put b (at + 12) bytes (omega (arith, fit));
  changed = changed_put b at 12 (length bytes) bytes refl (omega (arith, fit));
  holds = put_there b (at + 12) bytes (omega (arith, fit));
})
