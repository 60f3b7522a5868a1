use Rattle.std.proofs.Common.{arith}
use Rattle.std.proofs.lemmas.Int.{to_z-of_z}
use Rattle.cdf_records.proofs.vdr.vdr_in.Goals as goal

pub returns : goal.returns
returns c = λ field start shows. grind (
  arith,
  to_z-of_z,
  c.unsigned8.ensures field start shows,
  c.signed4.ensures field start shows,
  c.unsigned8-2.ensures field start shows,
  c.signed4-2.ensures field start shows,
  c.signed4-3.ensures field start shows,
  c.unsigned8-3.ensures field start shows,
  c.unsigned8-4.ensures field start shows,
  c.unsigned4.ensures field start shows,
  c.signed4-4.ensures field start shows,
  c.signed4-5.ensures field start shows,
  c.signed4-6.ensures field start shows,
  c.signed4-7.ensures field start shows,
  c.signed4-8.ensures field start shows,
  c.signed4-9.ensures field start shows,
  c.signed8.ensures field start shows,
  c.signed4-10.ensures field start shows,
)
