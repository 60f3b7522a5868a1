use Rattle.cdf_fields.proofs.Writes.{field_reads}
use Rattle.cdf_fields.proofs.laws.field_reads_back.Goals as goal

pub returns : goal.returns
returns c = field_reads
