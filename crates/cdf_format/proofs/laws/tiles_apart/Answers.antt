use Rattle.cdf_format.proofs.TilesLemmas.{tiles_lie_apart}
use Rattle.cdf_format.proofs.laws.tiles_apart.Goals as goal

pub returns : goal.returns
returns c = tiles_lie_apart
