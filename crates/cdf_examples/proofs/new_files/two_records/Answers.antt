use Rattle.cdf_examples.proofs.Common.{all_phases, chain_on, content, new_file, refl, shape, tiles_from}
use Rattle.cdf_examples.proofs.Tests.{AllHold-by}
use Rattle.cdf_examples.proofs.new_files.two_records.Goals as goal

pub returns : goal.returns
unfolding new_file shape content tiles_from chain_on
returns c = record { shape = refl; owned = refl; space = refl; content = refl; well_formed = AllHold-by (all_phases new_file) refl }
