use Rattle.cdf_puts.proofs.LeafEdit.{good_now}
use Rattle.cdf_puts.proofs.laws.good_after_leaf.Goals as goal

pub returns : goal.returns
returns c = λ b now kind before own after first last body records good at adds vacant says as_long short loose. good_now good at adds.added says vacant as_long short loose
