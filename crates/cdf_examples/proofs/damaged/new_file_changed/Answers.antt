use Rattle.cdf_examples.proofs.Common.{chain_on, damaged_new, new_file, not_owned_file, put, refl, shape, tiles_from, with_field}
use Rattle.cdf_examples.proofs.Tests.{EachBreaks-by, breaks_first}
use Rattle.cdf_examples.proofs.damaged.new_file_changed.Goals as goal

pub returns : goal.returns
unfolding not_owned_file new_file shape tiles_from chain_on with_field put
returns c = record { verdicts = EachBreaks-by new_file new_file damaged_new refl; not_owned = breaks_first not_owned_file not_owned_file 9 1 404 refl }
