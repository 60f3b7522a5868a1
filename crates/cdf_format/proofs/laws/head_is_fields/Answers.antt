use Rattle.cdf_format.proofs.GoodImageLemmas.{by_shape}
use Rattle.cdf_format.proofs.HeadOf.{head_of_good}
use Rattle.cdf_format.proofs.laws.head_is_fields.Goals as goal

pub returns : goal.returns
returns c = λ b s good. head_of_good b s (by_shape b s good)
