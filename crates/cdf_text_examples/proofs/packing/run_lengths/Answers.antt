use Rattle.std.proofs.Common.{refl}
use Rattle.cdf_text_examples.proofs.packing.run_lengths.Goals as goal

pub returns : goal.returns
returns c = record { five = refl; longest = refl; one_more = refl; cut = refl; two = refl }
