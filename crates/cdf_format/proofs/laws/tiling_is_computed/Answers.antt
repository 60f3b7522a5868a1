use Rattle.cdf_format.proofs.TilesLemmas.{tiling_sound, tiling_complete}
use Rattle.cdf_format.proofs.laws.tiling_is_computed.Goals as goal

pub returns-clause-sound : goal.returns-clause-sound
returns-clause-sound c = tiling_sound

pub returns-clause-complete : goal.returns-clause-complete
returns-clause-complete c = tiling_complete
