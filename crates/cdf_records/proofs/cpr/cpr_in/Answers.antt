use Rattle.std.proofs.Common.{arith}
use Rattle.std.proofs.lemmas.Int.{to_z-of_z}
use Rattle.cdf_records.proofs.cpr.cpr_in.Goals as goal

pub returns : goal.returns
returns c = λ field start shows. grind (
  arith,
  to_z-of_z,
  c.unsigned8.ensures field start shows,
  c.signed4.ensures field start shows,
  c.signed4-2.ensures field start shows,
  c.signed4-3.ensures field start shows,
  c.signed4-4.ensures field start shows,
)
