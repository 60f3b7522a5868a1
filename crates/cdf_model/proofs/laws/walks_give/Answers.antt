use Rattle.cdf_model.proofs.Giving.{gave_all, gave_more, gave_none}
use Rattle.cdf_model.proofs.laws.walks_give.Goals as goal

pub returns-clause-begins : goal.returns-clause-begins
returns-clause-begins c = gave_none

pub returns-clause-goes_on : goal.returns-clause-goes_on
returns-clause-goes_on c = gave_more

pub returns-clause-ends : goal.returns-clause-ends
returns-clause-ends c = gave_all
