use Rattle.cdf_fields.proofs.Writes.{length-with_field}
use Rattle.cdf_fields.proofs.laws.length_stays.Goals as goal

pub returns : goal.returns
returns c = length-with_field
