use Rattle.cdf_examples.proofs.Common.{digits, refl, run_script}
use Rattle.cdf_examples.proofs.new_files.shown.Goals as goal

pub returns : goal.returns
unfolding run_script digits
returns c = record { info = refl }
