use Rattle.cdf_format.proofs.ShapeLemmas.{only_shape, shape_is}
use Rattle.cdf_format.proofs.laws.shape_unique.Goals as goal

pub returns-clause-unique : goal.returns-clause-unique
returns-clause-unique c = only_shape

pub returns-clause-computed : goal.returns-clause-computed
returns-clause-computed c = shape_is
