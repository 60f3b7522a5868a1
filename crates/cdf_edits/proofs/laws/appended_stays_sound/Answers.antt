use Rattle.cdf_edits.proofs.Space.EndAppended.{appended_stays_sound}
use Rattle.cdf_edits.proofs.laws.appended_stays_sound.Goals as goal

pub returns : goal.returns
returns c = appended_stays_sound
