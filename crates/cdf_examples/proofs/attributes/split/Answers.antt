use Rattle.cdf_examples.proofs.Common.{chain_on, content, freed100_file, refl, run_script, shape, split_file, tiles_from}
use Rattle.cdf_examples.proofs.Tests.{keeps_rules}
use Rattle.cdf_examples.proofs.attributes.split.Goals as goal

pub returns : goal.returns
unfolding freed100_file split_file shape tiles_from chain_on content run_script
returns c = record { place = refl; list_after = refl; end = refl; shape = refl; list = refl; space = refl; content = refl; rules = keeps_rules split_file refl; made = refl }
