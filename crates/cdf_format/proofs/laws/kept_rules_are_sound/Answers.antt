use Rattle.cdf_format.proofs.ImageOf.{sound_image_of}
use Rattle.cdf_format.proofs.laws.kept_rules_are_sound.Goals as goal

pub returns : goal.returns
returns c = sound_image_of
