use Rattle.cdf_packed_gaps.proofs.CutPutContent.{content_then}
use Rattle.cdf_packed_gaps.proofs.CutPutDone as done
use Rattle.cdf_packed_gaps.proofs.laws.cut_and_put.Goals as goal

pub returns-clause-goes : goal.returns-clause-goes
returns-clause-goes c b mid now kind before own after first n raw cut to acts t = done.goes t

pub returns-clause-follows : goal.returns-clause-follows
returns-clause-follows c b mid now kind before own after first n raw cut to acts t = (done.goes t).follow

pub returns-clause-keeps : goal.returns-clause-keeps
returns-clause-keeps c b mid now kind before own after first n raw cut to acts t = done.keeps t

pub returns-clause-steps : goal.returns-clause-steps
returns-clause-steps c b mid now kind before own after first n raw cut to acts t raw_long = done.by_steps t raw_long

pub returns-clause-content : goal.returns-clause-content
returns-clause-content c b mid now kind before own after first n raw cut to acts t raw_long pad_long bytes raw_is = content_then t raw_long pad_long bytes raw_is
