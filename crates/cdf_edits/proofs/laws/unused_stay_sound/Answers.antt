use Rattle.cdf_edits.proofs.Frame.FileSound.{unused_stay_sound}
use Rattle.cdf_edits.proofs.laws.unused_stay_sound.Goals as goal

pub returns : goal.returns
returns c = unused_stay_sound
