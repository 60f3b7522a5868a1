use Rattle.cdf_examples.proofs.Common.{digits, refl, run_script}
use Rattle.cdf_examples.proofs.scripts.faults.Goals as goal

pub returns : goal.returns
unfolding run_script digits
returns c = record { replies = refl; refused = refl }
