use Rattle.std.proofs.Common.{refl}
use Rattle.std.specs.Fmt.{digits}
use Rattle.cdf_text_examples.proofs.texts.of_the_file.Goals as goal

pub returns : goal.returns
unfolding digits
returns c = record { head = refl; listing = refl; too_large = refl; count = refl }
