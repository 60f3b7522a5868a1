use Rattle.cdf_shape.proofs.OnePlace.{one_place}
use Rattle.cdf_shape.proofs.laws.one_place.Goals as goal

pub returns : goal.returns
returns c = one_place
