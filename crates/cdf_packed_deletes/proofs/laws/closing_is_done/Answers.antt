use Rattle.cdf_packed_deletes.proofs.ClosedFollows as follows
use Rattle.cdf_packed_deletes.proofs.ClosedRoom as room
use Rattle.cdf_packed_deletes.proofs.laws.closing_is_done.Goals as goal

pub returns-clause-goes : goal.returns-clause-goes
returns-clause-goes c b mid now kind before own after first last x = follows.done_goes x

pub returns-clause-keeps : goal.returns-clause-keeps
returns-clause-keeps c b mid now kind before own after first last x = follows.done_keeps x

pub returns-clause-steps : goal.returns-clause-steps
returns-clause-steps c b mid now kind before own after first last x = follows.done_steps x

pub returns-clause-takes : goal.returns-clause-takes
returns-clause-takes c b mid now kind before own after first last x = room.done_takes x

pub returns-clause-longer : goal.returns-clause-longer
returns-clause-longer c b mid now kind before own after first last x = (follows.done_longer x, room.done_within x (follows.done_goes x).follow)

pub returns-clause-content : goal.returns-clause-content
returns-clause-content c b mid now kind before own after first last x = follows.done_content x
