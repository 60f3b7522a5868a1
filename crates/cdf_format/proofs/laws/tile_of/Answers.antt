use Rattle.cdf_format.proofs.ImageOf.{good_image_of}
use Rattle.cdf_format.proofs.Owning.{owned_stand}
use Rattle.cdf_format.proofs.laws.tile_of.Goals as goal

pub returns-clause-shaped : goal.returns-clause-shaped
returns-clause-shaped c = λ f rules. (good_image_of f rules).has_shape

pub returns-clause-owned : goal.returns-clause-owned
returns-clause-owned c = λ f place rules i. owned_stand _ _ (good_image_of f rules) place i
