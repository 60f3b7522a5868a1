use Rattle.cdf_examples.proofs.Common.{[], refl, sealed, take, usual_image}
use Rattle.cdf_examples.proofs.Tests.{breaks_first}
use Rattle.cdf_examples.proofs.damaged.cut.Goals as goal

pub returns : goal.returns
unfolding usual_image
returns c = record { verdict = breaks_first (take 7 (sealed usual_image)) (take 7 (sealed usual_image)) 0 1 0 refl; empty = breaks_first [] [] 0 1 0 refl }
