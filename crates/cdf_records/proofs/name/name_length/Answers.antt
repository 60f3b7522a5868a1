use Rattle.std.proofs.Common.{◌==◌, ℕ, length, ◌∙◌, ap}
use Rattle.std.specs.Option.{unwrap_or}
use Rattle.cdf_records.proofs.NameLengths.{by_place, length_within}
use Rattle.cdf_records.proofs.name.name_length.Goals as goal

pub returns-clause-value : goal.returns-clause-value
returns-clause-value c = c.unwrap_or.ensures ∙ (ap (λ place. unwrap_or place (length c.args.bytes.now)) c.first_zero.ensures ∙ by_place (λ (byte : ℕ). byte == 0) c.args.bytes.now)

pub returns-clause-within : goal.returns-clause-within
returns-clause-within c = rw (c.unwrap_or.ensures, c.first_zero.ensures, by_place) (length_within (λ (byte : ℕ). byte == 0) c.args.bytes.now)
