use Rattle.cdf_model.proofs.Counts.{counts_more, counts_none}
use Rattle.cdf_model.proofs.laws.walks_count.Goals as goal

pub returns-clause-begins : goal.returns-clause-begins
returns-clause-begins c = counts_none

pub returns-clause-goes_on : goal.returns-clause-goes_on
returns-clause-goes_on c = counts_more
