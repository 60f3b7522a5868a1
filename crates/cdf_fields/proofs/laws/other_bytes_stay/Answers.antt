use Rattle.cdf_fields.proofs.Writes.{other_bytes}
use Rattle.cdf_fields.proofs.laws.other_bytes_stay.Goals as goal

pub returns : goal.returns
returns c = other_bytes
