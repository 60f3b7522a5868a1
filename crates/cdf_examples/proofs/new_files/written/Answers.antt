use Rattle.cdf_examples.proofs.Common.{new_file, refl}
use Rattle.cdf_examples.proofs.new_files.written.Goals as goal

pub returns : goal.returns
unfolding new_file
returns c = record { length = refl; cdr_size = refl; gdr_size = refl; eof = refl }
