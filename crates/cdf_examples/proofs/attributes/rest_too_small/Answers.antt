use Rattle.cdf_examples.proofs.Common.{behind_file, chain_on, content, freed100_file, refl, run_script, shape, tiles_from}
use Rattle.cdf_examples.proofs.Tests.{keeps_rules}
use Rattle.cdf_examples.proofs.attributes.rest_too_small.Goals as goal

pub returns : goal.returns
unfolding freed100_file behind_file shape tiles_from chain_on content run_script
returns c = record {
  list = refl;
  freed_rules = keeps_rules freed100_file refl;
  place = refl;
  list_after = refl;
  end = refl;
  shape = refl;
  space = refl;
  content = refl;
  rules = keeps_rules behind_file refl;
  made = refl;
}
