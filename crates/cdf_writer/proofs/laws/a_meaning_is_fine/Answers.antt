use Rattle.cdf_format.specs.Content.{content}
use Rattle.cdf_writer.proofs.MeantWhole.{meant_fine}
use Rattle.cdf_writer.proofs.Whole.{compact_means, of_fine}
use Rattle.cdf_writer.proofs.laws.a_meaning_is_fine.Goals as goal

pub returns-clause-fine : goal.returns-clause-fine
returns-clause-fine c = meant_fine

pub returns-clause-same : goal.returns-clause-same
returns-clause-same c b good below small short = let f = meant_fine b good below small in compact_means (content b) (of_fine (content b) f short) f.attributes f.variables
