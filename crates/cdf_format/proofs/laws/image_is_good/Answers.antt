use Rattle.cdf_format.proofs.GoodHead.{image_is_good, image_fits}
use Rattle.cdf_format.proofs.laws.image_is_good.Goals as goal

pub returns-clause-good : goal.returns-clause-good
returns-clause-good c = image_is_good

pub returns-clause-fits : goal.returns-clause-fits
returns-clause-fits c = image_fits
