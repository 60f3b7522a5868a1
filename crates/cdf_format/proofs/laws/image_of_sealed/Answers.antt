use Rattle.cdf_format.proofs.ImageOf.{image_of-sealed}
use Rattle.cdf_format.proofs.laws.image_of_sealed.Goals as goal

pub returns : goal.returns
returns c = image_of-sealed
