use Rattle.cdf_writer.proofs.Whole.{compact_good, compact_means, compact_read, compact_wastes_none, of_fine}
use Rattle.cdf_writer.proofs.laws.compact_is_good.Goals as goal

pub returns-clause-good : goal.returns-clause-good
returns-clause-good c d f short = compact_good d (of_fine d f short) f.attributes f.variables

pub returns-clause-read : goal.returns-clause-read
returns-clause-read c d f short = compact_read d (of_fine d f short) f.attributes f.variables

pub returns-clause-content : goal.returns-clause-content
returns-clause-content c d f short = compact_means d (of_fine d f short) f.attributes f.variables

pub returns-clause-listed : goal.returns-clause-listed
returns-clause-listed c d f short = (compact_wastes_none d (of_fine d f short) f.attributes f.variables).0

pub returns-clause-unlisted : goal.returns-clause-unlisted
returns-clause-unlisted c d f short = (compact_wastes_none d (of_fine d f short) f.attributes f.variables).1
