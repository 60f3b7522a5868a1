use Rattle.cdf_fields.proofs.Writes.{field_reads4}
use Rattle.cdf_fields.proofs.laws.signed4_reads_back.Goals as goal

pub returns : goal.returns
returns c = field_reads4
