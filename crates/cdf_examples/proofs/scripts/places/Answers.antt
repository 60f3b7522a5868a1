use Rattle.cdf_examples.proofs.Common.{refl}
use Rattle.cdf_examples.proofs.scripts.places.Goals as goal

pub returns : goal.returns
returns c = record { row = refl; column = refl; next_row = refl; next_column = refl; none = refl }
