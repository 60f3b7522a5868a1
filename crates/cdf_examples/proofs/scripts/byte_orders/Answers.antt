use Rattle.cdf_examples.proofs.Common.{digits, refl, run_script}
use Rattle.cdf_examples.proofs.scripts.byte_orders.Goals as goal

pub returns : goal.returns
unfolding run_script digits
returns c = record { date = refl; real = refl; replies = refl }
