use Rattle.cdf_examples.proofs.Common.{again_file, chain_on, content, entry_file, freed_file, refl, run_script, shape, tiles_from}
use Rattle.cdf_examples.proofs.Tests.{keeps_rules}
use Rattle.cdf_examples.proofs.attributes.place_taken.Goals as goal

pub returns : goal.returns
unfolding entry_file freed_file again_file shape tiles_from chain_on content run_script
returns c = record {
  freed = refl;
  freed_content = refl;
  freed_rules = keeps_rules freed_file refl;
  list = refl;
  place = refl;
  list_after = refl;
  end = refl;
  shape = refl;
  space = refl;
  content = refl;
  rules = keeps_rules again_file refl;
  room = refl;
  made = refl;
  made_again = refl;
}
