use Rattle.std.proofs.Common.{refl}
use Rattle.std.specs.Fmt.{digits}
use Rattle.cdf_text_examples.proofs.values.numbers.Goals as goal

pub returns : goal.returns
unfolding digits
returns c = record { int1 = refl; byte = refl; int2 = refl; int4 = refl; int8 = refl; time = refl; uint1 = refl; uint2 = refl; uint4 = refl }
