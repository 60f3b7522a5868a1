use Rattle.cdf_format.proofs.GoodImageLemmas.{good_image}
use Rattle.cdf_format.specs.Shape.{shape}
use Rattle.cdf_format.proofs.GoodSound.{good_by_its_shape, good_is_sound, good_eof}
use Rattle.cdf_format.proofs.laws.good_has_shape.Goals as goal

pub returns-clause-good : goal.returns-clause-good
returns-clause-good c = λ b good. good_image b (shape b) (good_by_its_shape b good)

pub returns-clause-sound : goal.returns-clause-sound
returns-clause-sound c = good_is_sound

pub returns-clause-eof : goal.returns-clause-eof
returns-clause-eof c = good_eof
