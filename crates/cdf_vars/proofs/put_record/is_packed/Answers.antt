use Rattle.std.proofs.Common.{ap, ◌∙◌}
use Rattle.cdf_format.specs.Fields.{has_bit}
use Rattle.cdf_format.specs.Records.{vdr_compression_bit}
use Rattle.std.proofs.Common.{ℕ}
use Rattle.cdf_vars.proofs.put_record.is_packed.Goals as goal

pub returns : goal.returns
returns c b form = c.has_bit.ensures ∙ ap (λ (flags : ℕ). has_bit flags vdr_compression_bit) form.place.flags_are
