use Rattle.cdf_format.proofs.IndexLemmas.{index_sound, index_complete}
use Rattle.cdf_format.proofs.laws.index_is_computed.Goals as goal

pub returns-clause-sound : goal.returns-clause-sound
returns-clause-sound c = index_sound

pub returns-clause-complete : goal.returns-clause-complete
returns-clause-complete c = index_complete
