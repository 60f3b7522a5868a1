use Rattle.cdf_writer.proofs.MeantWhole.{meant_fine}
use Rattle.cdf_writer.proofs.PlainMeaning.{meaning_is_plain}
use Rattle.cdf_convert.proofs.laws.a_meaning_can_be_written.Goals as goal

pub returns-clause-fine : goal.returns-clause-fine
returns-clause-fine c = meant_fine

pub returns-clause-plain : goal.returns-clause-plain
returns-clause-plain c = meaning_is_plain
