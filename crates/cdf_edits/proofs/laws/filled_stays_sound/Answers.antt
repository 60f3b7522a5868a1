use Rattle.cdf_edits.proofs.Space.RecordFilled.{filled_stays_sound}
use Rattle.cdf_edits.proofs.laws.filled_stays_sound.Goals as goal

pub returns : goal.returns
returns c = filled_stays_sound
