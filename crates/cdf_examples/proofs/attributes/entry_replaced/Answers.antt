use Rattle.cdf_examples.proofs.Common.{chain_on, content, entry_file, moved_file, refl, replaced_file, run_script, shape, tiles_from}
use Rattle.cdf_examples.proofs.Tests.{keeps_rules}
use Rattle.cdf_examples.proofs.attributes.entry_replaced.Goals as goal

pub returns : goal.returns
unfolding entry_file replaced_file moved_file shape tiles_from chain_on content run_script
returns c = record {
  in_place = refl;
  replaced = refl;
  replaced_rules = keeps_rules replaced_file refl;
  length = refl;
  shape = refl;
  owned = refl;
  space = refl;
  content = refl;
  rules = keeps_rules moved_file refl;
  place = refl;
  end = refl;
  list = refl;
  room = refl;
  made = refl;
  made_longer = refl;
}
