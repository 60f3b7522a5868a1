use Rattle.cdf_format.proofs.ChainsLemmas.{chain_sound, chain_complete}
use Rattle.cdf_format.proofs.laws.chain_is_computed.Goals as goal

pub returns-clause-sound : goal.returns-clause-sound
returns-clause-sound c = chain_sound

pub returns-clause-complete : goal.returns-clause-complete
returns-clause-complete c = chain_complete
