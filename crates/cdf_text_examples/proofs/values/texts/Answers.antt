use Rattle.std.proofs.Common.{refl}
use Rattle.std.specs.Fmt.{digits}
use Rattle.cdf_text_examples.proofs.values.texts.Goals as goal

pub returns : goal.returns
unfolding digits
returns c = record { int1 = refl; int8 = refl; uint4 = refl; real4 = refl; letters = refl; none = refl; bytes = refl }
