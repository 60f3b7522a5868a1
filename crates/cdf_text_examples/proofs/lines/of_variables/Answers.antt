use Rattle.std.proofs.Common.{refl}
use Rattle.cdf_text_examples.proofs.lines.of_variables.Goals as goal

pub returns : goal.returns
returns c = record { rvar = refl; zvar = refl; rename = refl; del = refl; pad = refl; sparse = refl; compress = refl; blocking = refl; reindex = refl }
