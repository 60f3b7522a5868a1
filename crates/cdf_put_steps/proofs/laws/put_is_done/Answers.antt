use Rattle.cdf_put_steps.proofs.Along.{put_leaves}
use Rattle.cdf_put_steps.proofs.KeptAlong as kept
use Rattle.cdf_put_steps.proofs.PutContent as stored
use Rattle.cdf_put_steps.proofs.StepsDone as steps
use Rattle.cdf_put_steps.proofs.laws.put_is_done.Goals as goal

pub returns-clause-goes : goal.returns-clause-goes
returns-clause-goes c b now kind before own after n raw to acts along past done short = kept.put_goes (put_leaves along) past done short

pub returns-clause-follows : goal.returns-clause-follows
returns-clause-follows c b now kind before own after n raw to acts along past done short = (kept.put_goes (put_leaves along) past done short).follow

pub returns-clause-keeps : goal.returns-clause-keeps
returns-clause-keeps c b now kind before own after n raw to acts along past done short = kept.put_keeps (put_leaves along) past done short

pub returns-clause-steps : goal.returns-clause-steps
returns-clause-steps c b now kind before own after n raw to acts along past done short raw_long = steps.by_steps (put_leaves along) past done short along.puts raw_long

pub returns-clause-content : goal.returns-clause-content
returns-clause-content c b now kind before own after n raw to acts along past done short raw_long pad_long bytes raw_is pad_is = stored.put_content (put_leaves along) past done short raw_long pad_long along.uncut bytes raw_is pad_is
