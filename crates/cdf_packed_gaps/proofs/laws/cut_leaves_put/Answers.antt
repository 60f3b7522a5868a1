use Rattle.cdf_packed_gaps.proofs.CutRoom as room
use Rattle.cdf_packed_gaps.proofs.laws.cut_leaves_put.Goals as goal

pub returns-clause-room : goal.returns-clause-room
returns-clause-room c b kind before own after first n limit cuts rle enough = room.room_for_cut cuts limit rle enough

pub returns-clause-gone : goal.returns-clause-gone
returns-clause-gone c b mid kind before own after first n cuts cut = room.gone_mid cuts cut

pub returns-clause-variable : goal.returns-clause-variable
returns-clause-variable c b mid kind before own after first n cuts cut = room.variable_mid cuts cut

pub returns-clause-content : goal.returns-clause-content
returns-clause-content c b mid kind before own after first n cuts cut = room.content_mid cuts cut

pub returns-clause-within : goal.returns-clause-within
returns-clause-within c b mid kind before own after first n cuts cut rle = room.both_within cuts cut rle

pub returns-clause-fits : goal.returns-clause-fits
returns-clause-fits c b mid kind before own after first n acts cuts cut rle fits = room.both_fit cuts cut acts rle fits
