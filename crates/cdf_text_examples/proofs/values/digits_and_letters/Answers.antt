use Rattle.std.proofs.Common.{refl}
use Rattle.std.specs.Fmt.{digits}
use Rattle.cdf_text_examples.proofs.values.digits_and_letters.Goals as goal

pub returns : goal.returns
unfolding digits
returns c = record { either_case = refl; date = refl; letters = refl }
