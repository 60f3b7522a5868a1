use Rattle.cdf_examples.proofs.Common.{attribute_file, chain_on, content, digits, entry_file, refl, run_script, shape, tiles_from}
use Rattle.cdf_examples.proofs.Tests.{keeps_rules}
use Rattle.cdf_examples.proofs.attributes.given_entry.Goals as goal

pub returns : goal.returns
unfolding attribute_file entry_file shape tiles_from chain_on content run_script digits
returns c = record { length = refl; written = refl; shape = refl; owned = refl; content = refl; rules = keeps_rules entry_file refl; room = refl; replies = refl; made = refl }
