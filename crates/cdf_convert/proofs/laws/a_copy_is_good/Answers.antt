use Rattle.cdf_format.specs.Content.{content}
use Rattle.cdf_writer.proofs.MeantWhole.{meant_fine}
use Rattle.cdf_writer.proofs.PlainMeaning.{meaning_is_plain}
use Rattle.cdf_writer.proofs.Whole.{compact_good, compact_means, compact_read, compact_wastes_none, of_fine}
use Rattle.cdf_convert.proofs.laws.a_copy_is_good.Goals as goal

pub returns-clause-good : goal.returns-clause-good
returns-clause-good c b good bytes small short = let f = meant_fine b good bytes small in compact_good (content b) (of_fine (content b) f short) f.attributes f.variables

pub returns-clause-read : goal.returns-clause-read
returns-clause-read c b good read bytes small short = let f = meant_fine b good bytes small in compact_read (content b) (of_fine (content b) f short) f.attributes f.variables (meaning_is_plain b read)

pub returns-clause-same : goal.returns-clause-same
returns-clause-same c b good bytes small short = let f = meant_fine b good bytes small in compact_means (content b) (of_fine (content b) f short) f.attributes f.variables

pub returns-clause-listed : goal.returns-clause-listed
returns-clause-listed c b good bytes small short = let f = meant_fine b good bytes small in (compact_wastes_none (content b) (of_fine (content b) f short) f.attributes f.variables).0

pub returns-clause-unlisted : goal.returns-clause-unlisted
returns-clause-unlisted c b good bytes small short = let f = meant_fine b good bytes small in (compact_wastes_none (content b) (of_fine (content b) f short) f.attributes f.variables).1
