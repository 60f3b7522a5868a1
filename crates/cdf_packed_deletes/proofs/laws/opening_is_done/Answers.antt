use Rattle.cdf_packed_deletes.proofs.OpenedRoom as room
use Rattle.cdf_packed_deletes.proofs.TwiceOpened as twice
use Rattle.cdf_packed_deletes.proofs.laws.opening_is_done.Goals as goal

pub returns-clause-goes : goal.returns-clause-goes
returns-clause-goes c b mid past now kind before own after first last x = twice.twice_goes x

pub returns-clause-keeps : goal.returns-clause-keeps
returns-clause-keeps c b mid past now kind before own after first last x = twice.twice_keeps x

pub returns-clause-steps : goal.returns-clause-steps
returns-clause-steps c b mid past now kind before own after first last x = twice.twice_steps x

pub returns-clause-takes : goal.returns-clause-takes
returns-clause-takes c b mid past now kind before own after first last x = room.twice_takes x

pub returns-clause-longer : goal.returns-clause-longer
returns-clause-longer c b mid past now kind before own after first last x = (twice.twice_longer x, room.twice_within x (twice.twice_goes x).follow)

pub returns-clause-content : goal.returns-clause-content
returns-clause-content c b mid past now kind before own after first last x = twice.twice_content x
