use Rattle.cdf_put_steps.proofs.Along.{leaves_are_put, leaves_one_along, leaves_start}
use Rattle.cdf_put_steps.proofs.laws.leaves_go_along.Goals as goal

pub returns-clause-starts : goal.returns-clause-starts
returns-clause-starts c p kind before after from = leaves_start p kind before after from

pub returns-clause-leads : goal.returns-clause-leads
returns-clause-leads c p kind before after from mid to acts along leaf one = leaves_one_along along leaf one

pub returns-clause-puts : goal.returns-clause-puts
returns-clause-puts c b kind before own after n raw to acts good at uncut along = leaves_are_put good at uncut along
