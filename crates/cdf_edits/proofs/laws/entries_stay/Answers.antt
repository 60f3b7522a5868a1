use Rattle.cdf_edits.proofs.Commands.SameEntries.{entries_stay}
use Rattle.cdf_edits.proofs.laws.entries_stay.Goals as goal

pub returns : goal.returns
returns c = entries_stay
