use Rattle.cdf_format.proofs.GoodImageLemmas.{by_shape}
use Rattle.cdf_format.proofs.Owning.{same_counts}
use Rattle.cdf_format.proofs.laws.owned_once.Goals as goal

pub returns : goal.returns
returns c = λ b s place good. same_counts b s (by_shape b s good) place
