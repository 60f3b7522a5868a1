use Rattle.cdf_edits.proofs.Frame.FileSound.{file_stays_sound}
use Rattle.cdf_edits.proofs.laws.file_stays_sound.Goals as goal

pub returns : goal.returns
returns c = file_stays_sound
