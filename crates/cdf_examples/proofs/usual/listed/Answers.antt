use Rattle.cdf_examples.proofs.Common.{digits, refl}
use Rattle.cdf_examples.proofs.usual.listed.Goals as goal

pub returns : goal.returns
unfolding digits
returns c = record { events = refl; dump = refl }
