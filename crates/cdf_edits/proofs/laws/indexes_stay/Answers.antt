use Rattle.cdf_edits.proofs.Commands.OthersStay.{indexes_stay}
use Rattle.cdf_edits.proofs.laws.indexes_stay.Goals as goal

pub returns : goal.returns
returns c = indexes_stay
