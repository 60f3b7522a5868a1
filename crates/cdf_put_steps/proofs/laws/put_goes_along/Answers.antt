use Rattle.cdf_put_steps.proofs.Along.{goes_one_along, starts_along}
use Rattle.cdf_put_steps.proofs.laws.put_goes_along.Goals as goal

pub returns-clause-starts : goal.returns-clause-starts
returns-clause-starts c b kind before own after n raw good at uncut = starts_along n raw good at uncut

pub returns-clause-leads : goal.returns-clause-leads
returns-clause-leads c b kind before own after n raw mid to acts along leaf one = goes_one_along along leaf one
