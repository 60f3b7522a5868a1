use Rattle.cdf_fields.proofs.Writes.{field_reads8}
use Rattle.cdf_fields.proofs.laws.signed8_reads_back.Goals as goal

pub returns : goal.returns
returns c = field_reads8
