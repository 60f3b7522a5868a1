use Rattle.std.proofs.Common.{refl}
use Rattle.std.specs.Fmt.{digits}
use Rattle.cdf_text_examples.proofs.texts.of_values.Goals as goal

pub returns : goal.returns
unfolding digits
returns c = record { entry = refl; letters = refl; real = refl; labels = refl }
