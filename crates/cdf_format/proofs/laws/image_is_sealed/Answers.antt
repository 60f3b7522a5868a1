use Rattle.cdf_format.proofs.ImageOf.{sealed_is_file}
use Rattle.cdf_format.proofs.laws.image_is_sealed.Goals as goal

pub returns : goal.returns
returns c = sealed_is_file
