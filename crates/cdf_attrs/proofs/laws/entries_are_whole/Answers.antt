use Rattle.cdf_attrs.proofs.WholeEntries.{entries_whole}
use Rattle.cdf_attrs.proofs.laws.entries_are_whole.Goals as goal

pub returns : goal.returns
returns c = entries_whole
