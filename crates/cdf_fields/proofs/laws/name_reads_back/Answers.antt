use Rattle.cdf_fields.proofs.NamesWritten.{name_reads}
use Rattle.cdf_fields.proofs.laws.name_reads_back.Goals as goal

pub returns : goal.returns
returns c = name_reads
