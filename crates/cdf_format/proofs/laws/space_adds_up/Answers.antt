use Rattle.cdf_format.proofs.SpaceLemmas.{space_adds_up_lem}
use Rattle.cdf_format.proofs.laws.space_adds_up.Goals as goal

pub returns : goal.returns
returns c = space_adds_up_lem
